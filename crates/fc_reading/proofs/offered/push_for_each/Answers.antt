use Rattle.std.proofs.Common.{◌≡◌, ◌+◌, ◌∷◌, List, suc, drop, drop-cons, ap, sym, subst, ◌∙◌, add-one}
use Rattle.fc_base.specs.View.{val_view}
use Rattle.fc_request.specs.FacetNode.{vals_view}
use Rattle.fc_refine.specs.Grouped.{map_view}
use Rattle.fc_refine.proofs.Growing.{IsGrowing, growing_more}
use Rattle.fc_spec.specs.documents.Val.{Val}
use Rattle.fc_reading.proofs.offered.push_for_each.Goals as goal

pub loop-val-preserved : goal.loop-val-preserved
loop-val-preserved c =
    let old = map_view (λ i. i) c.args.by_value.now in
    let now = c.loop-val.by_value in
    let xs = c.args.vals.now in
    let i = c.loop-val.val-index in
    let item = c.val-item.result in
    let all = vals_view xs in
    let left = vals_view (drop (i + 1) xs) in
    let k = val_view item.now in
    let first : drop i xs ≡ item ∷ drop (i + 1) xs = rw add-one (drop-cons xs i item c.loop-val-test.true ∙ ap (λ x. x ∷ drop (suc i) xs) (sym c.val-item.is)) in
    let growing : IsGrowing old (map_view (λ i. i) now) (k ∷ left) all c.args.shard = subst (λ (vs : List Val). IsGrowing old (map_view (λ i. i) now) vs all c.args.shard) (ap vals_view first) c.loop-val.invariant in
    growing_more (λ i. i) old now c.push_shard.new.by_value k left all c.args.shard growing c.in_ok-push_shard.ensures
