use Rattle.std.proofs.Common.{◌≡◌, ◌∙◌, ◌+◌, ◌∷◌, suc, drop, drop-cons, add-one, ap, sym, map}
use Rattle.fc_spec.specs.messages.Lacks.{want_of}
use Rattle.fc_spec.specs.requests.Buckets.{value}
use Rattle.fc_base.specs.View.{val_view}
use Rattle.fc_refine.specs.AskView.{way_view}
use Rattle.fc_reading.specs.declared.candidate.Candidate.{Candidate}
use Rattle.fc_lacks.specs.Lacking.{lacked_by}
use Rattle.fc_lacks.specs.LackView.{lack_view}
use Rattle.fc_lacks.proofs.LackedValues.{next_made}
use Rattle.fc_lacks.proofs.lacks.push_values.Goals as goal

pub loop-one-preserved : goal.loop-one-preserved
loop-one-preserved g c =
    let F = λ (one : Candidate g.row.R-Bucket.Denot). lacked_by g.R.BucketReading.has c.args.shards.now (g.R.BucketReading.held one.bucket) (want_of (way_view c.args.way.now) c.args.node (value (val_view one.val))) in
    let xs = c.args.values.now in
    let i = c.loop-one.one-index in
    let item = c.one-item.result in
    let first : drop i xs ≡ item ∷ drop (i + 1) xs = rw add-one (drop-cons xs i item c.loop-one-test.true ∙ ap (λ x. x ∷ drop (suc i) xs) (sym c.one-item.is)) in
    record {
      made = c.in_ok-push_value.ensures.made;
      lacks = next_made F (map lack_view c.loop-one.lacks.items) (map lack_view c.push_value.new.lacks.items) item (drop (i + 1) xs) (drop i xs) _ first c.in_ok-push_value.ensures.lacks c.loop-one.invariant.lacks;
    }
