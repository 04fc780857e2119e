use Rattle.std.proofs.Common.{◌≡◌, map, subst}
use Rattle.std.specs.Cow.{cow_slice_items}
use Rattle.std.specs.Prelude.{All}
use Rattle.std.proofs.lemmas.List.Elements.{All-head}
use Rattle.fc_spec.specs.replies.Chosen.{offering}
use Rattle.fc_base.specs.View.{val_view}
use Rattle.fc_facet.specs.KindView.{terms_view}
use Rattle.fc_request.specs.NodeView.{inner_view}
use Rattle.fc_reading.specs.declared.offered.Offered.{Offered}
use Rattle.fc_reading.specs.Terms.{counted_first, IsOn}
use Rattle.fc_reading.proofs.MadeLists.{images_more, made_more}
use Rattle.fc_reading.proofs.OfferedValues.{first_distinct, on_first}
use Rattle.fc_reading.proofs.terms.candidates_of.Goals as goal

pub loop-one-preserved : goal.loop-one-preserved
loop-one-preserved g c =
    let R = g.R.BucketReading.reading c.args.reading.now in
    let held = g.R.BucketReading.held in
    let t = terms_view c.args.terms.now in
    let inner = inner_view c.args.node.now in
    let K = c.args.shards.now in
    let Y = g.R.BucketReading.over c.args.domain.now in
    let done = c.loop-one.list.items in
    let now = c.push.new.self.items in
    let made = c.in_ok-candidate.field-0 in
    let one = c.in-Some.one in
    let left = c.loop-one.one-iterator.rest.items in
    let rest = c.next.new.self.rest.items in
    let pushed = c.in_ok-push.ensures.items in
    let first = c.in-Some.ensures.steps.0 in
    let vals = map (λ (o : Offered). val_view o.val.now) c.args.offered.items in
    let both = made_more done now made one left rest pushed first (IsOn R t inner K Y held (counted_first R t inner K Y)) (λ (o : Offered). o.shards.items ≡ offering R t inner K Y (val_view o.val.now)) c.loop-one.invariant.0 c.loop-one.invariant.2
    (λ offers. on_first R t inner K Y held (val_view one.val.now) one.shards.items (cow_slice_items c.shards_first-counted.result) c.args.again made c.requires.again c.in_ok-candidate.ensures.val offers c.shards_first-counted.ensures (c.in_ok-candidate.ensures.on K)) in
    (both.0, images_more done now made one left rest pushed first (λ c. val_view c.val) (λ (o : Offered). val_view o.val.now) vals c.in_ok-candidate.ensures.val c.loop-one.invariant.1, both.1)

pub candidate-requires-clause-distinct : goal.candidate-requires-clause-distinct
candidate-requires-clause-distinct g c =
    let R = g.R.BucketReading.reading c.args.reading.now in
    let t = terms_view c.args.terms.now in
    let inner = inner_view c.args.node.now in
    let K = c.args.shards.now in
    let Y = g.R.BucketReading.over c.args.domain.now in
    let one = c.in-Some.one in
    let P = λ (o : Offered). o.shards.items ≡ offering R t inner K Y (val_view o.val.now) in
    let offers = All-head P one c.next.new.self.rest.items (subst (All P) c.in-Some.ensures.steps.0 c.loop-one.invariant.2) in
    first_distinct R t inner K Y g.R.BucketReading.held (val_view one.val.now) one.shards.items (cow_slice_items c.shards_first-counted.result) c.args.again offers c.shards_first-counted.ensures c.requires.distinct
