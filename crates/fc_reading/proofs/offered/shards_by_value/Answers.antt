use Rattle.std.proofs.Common.{◌≡◌, ◌<◌, List, length, get_or, Vec, Bor, ◌∙◌, ap, refl, subst, arith}
use Rattle.std.specs.declared.alloc.Global.{Global}
use Rattle.fc_base.specs.declared.value.Val as code
use Rattle.fc_spec.specs.documents.Val.{Val}
use Rattle.fc_request.specs.FacetNode.{vals_view}
use Rattle.fc_refine.specs.Grouped.{Grows}
use Rattle.fc_refine.proofs.Growing.{holds_more}
use Rattle.fc_reading.proofs.Merging.{holds_none, shards_with, shards_more, offered_at}
use Rattle.fc_reading.proofs.offered.shards_by_value.Goals as goal

pub loop-at-init : goal.loop-at-init
loop-at-init c = λ f same. rw c.new-by_value.ensures.empty (holds_none f)

pub loop-at-preserved : goal.loop-at-preserved
loop-at-preserved c = λ f same.
    let shards = c.args.shards.now in
    let offers = c.args.offers.now in
    let at = c.loop-at.at in
    let old = c.loop-at.by_value in
    let new = c.push_for_each.new.by_value in
    let shard = get_or shards at 0 in
    let see : Vec (Bor code.Val) Global → List Val = λ list. vals_view list.items in
    let here : at < length offers = c.loop-at-test.true in
    let there : at < length shards = omega (arith, c.requires.length) in
    let vals : vals_view c.deref.result.now ≡ f shard = ap vals_view c.deref.ensures.value ∙ offered_at see f offers shards at c.index-offers-at.result same here there c.index-offers-at.is in
    let grows : Grows (λ i. i) old new (f shard) shard = subst (λ (vs : List Val). Grows (λ i. i) old new vs shard) vals c.in_ok-push_for_each.ensures in
    holds_more (λ i. i) (shards_with f _) (shards_with f _) shard old new (f shard) (c.loop-at.invariant f same) grows (shards_more f shards at shard there refl)
