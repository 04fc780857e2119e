use Rattle.std.proofs.Common.{ap}
use Rattle.fc_base.specs.View.{val_view}
use Rattle.fc_reading.specs.Terms.{candidate_vals, IsOn}
use Rattle.fc_reading.proofs.MadeLists.{images_more, made_more}
use Rattle.fc_reading.proofs.terms.all_counted_on.Goals as goal

pub loop-candidate-preserved : goal.loop-candidate-preserved
loop-candidate-preserved g c =
    let R = g.R.BucketReading.reading c.args.reading.now in
    let held = g.R.BucketReading.held in
    let K = c.args.shards.now in
    let done = c.loop-candidate.list.items in
    let now = c.push.new.self.items in
    let made = c.in_ok-counted_on.field-0 in
    let one = c.in-Some.candidate in
    let left = c.loop-candidate.candidate-iterator.rest.items in
    let rest = c.next.new.self.rest.items in
    let pushed = c.in_ok-push.ensures.items in
    let first = c.in-Some.ensures.steps.0 in (
      images_more done now made one left rest pushed first (λ c. val_view c.val) (λ c. val_view c.val) (candidate_vals c.args.candidates.items) (ap val_view c.in_ok-counted_on.ensures.val) c.loop-candidate.invariant.0,
      λ t inner Y counted stats on.
          let so_far = c.loop-candidate.invariant.1 t inner Y counted stats on in
          made_more done now made one left rest pushed first (IsOn R t inner K Y held (λ v. K)) (IsOn R t inner K Y held counted) so_far.0 so_far.1 (c.in_ok-counted_on.ensures.on t inner Y counted stats),
    )

pub returns-clause-on : goal.returns-clause-on
returns-clause-on g c = λ t inner Y counted stats on. (c.loop-candidate.invariant.1 t inner Y counted stats on).0
