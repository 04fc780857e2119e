use Rattle.std.proofs.Common.{◌∙◌, ◌++◌, ◌∷◌, [], map, take, append_assoc, ap, sym}
use Rattle.std.proofs.lemmas.List.{map_push, take_more}
use Rattle.fc_refine.specs.AskView.{wants_view}
use Rattle.fc_exact.specs.ToldFacets.{wants_in}
use Rattle.fc_exact.specs.ToldView.{value_view}
use Rattle.fc_exact.proofs.WantLists.{wants_in-append}
use Rattle.fc_exact.proofs.wants.push_wants.Goals as goal

pub loop-value-preserved : goal.loop-value-preserved
loop-value-preserved c =
    let xs = c.args.values.now in
    let at = c.loop-value.value-index in
    let item = c.value-item.result in
    let before = wants_view c.args.wants.now.items in
    let own = wants_in c.args.shard c.args.facet in
    c.in_ok-push_want.ensures ∙ ap (λ ws. ws ++ own (value_view item ∷ [])) c.loop-value.invariant ∙ append_assoc before (own (map value_view (take at xs))) (own (value_view item ∷ []))
    ∙ ap (λ ws. before ++ ws) (sym (wants_in-append c.args.shard c.args.facet (map value_view (take at xs)) (value_view item ∷ []))
    ∙ ap own (sym (ap (map value_view) (take_more xs at item c.loop-value-test.true ∙ ap (λ p. take at xs ++ p ∷ []) (sym c.value-item.is)) ∙ map_push value_view (take at xs) item)))
