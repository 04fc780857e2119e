use Rattle.std.proofs.Common.{◌≡◌, ◌∙◌, ◌+◌, ◌<◌, ◌++◌, ◌∷◌, [], suc, None, Some, map, drop, length, get_or, append_assoc, ap, sym, subst, arith}
use Rattle.std.specs.Prelude.{All, option_map}
use Rattle.std.proofs.lemmas.List.{map_push}
use Rattle.std.proofs.lemmas.List.Elements.{All-push}
use Rattle.fc_refine.specs.Grouped.{Ascend}
use Rattle.fc_request.specs.FacetNode.{kind_view}
use Rattle.fc_request.specs.NodeView.{node_view, nodes_view}
use Rattle.fc_exact.specs.ToldFacets.{facets_in, kind_of_node, told_of_facet, values_in}
use Rattle.fc_exact.specs.ToldView.{facet_view, lent_view}
use Rattle.fc_exact.specs.View.{told_view}
use Rattle.fc_exact.specs.declared.facets.ToldFacet.{ToldFacet}
use Rattle.fc_exact.proofs.NextFacets.{length-push, list_at, lists_counted, next_facet}
use Rattle.fc_exact.proofs.facets.told_facets.Goals as goal

pub index-requires : goal.index-requires
index-requires c =
    let counted = lists_counted c.in_ok-lists.lists.items (map told_view c.args.told.now) (length c.args.nodes.now) c.in_ok-lists.ensures in
    let few = c.loop-node.invariant.few in
    omega (arith, counted, few, c.in_ok-lists.lists.ok.0, c.len.ensures, c.loop-node.facets.ok.0, c.loop-node-test.true)

pub loop-node-preserved-in_default : goal.loop-node-preserved-in_default
loop-node-preserved-in_default c =
    let A = map told_view c.args.told.now in
    let xs = c.args.nodes.now in
    let i = c.loop-node.node-index in
    let done = c.loop-node.facets.items in
    let few = c.loop-node.invariant.few in
    let none : kind_of_node (node_view c.node-item.result).1 ≡ None = sym c.facet_kind.ensures ∙ ap (option_map (λ kind. kind_view kind.now)) c.in_default.is in
    record {
      facets = ap (λ fs. map facet_view done ++ fs) (sym (next_facet A xs i c.node-item.result (length done) None c.loop-node-test.true c.node-item.is none)) ∙ c.loop-node.invariant.facets;
      few = omega arith;
      ascend = c.loop-node.invariant.ascend;
    }

pub loop-node-preserved : goal.loop-node-preserved
loop-node-preserved c =
    let A = map told_view c.args.told.now in
    let xs = c.args.nodes.now in
    let i = c.loop-node.node-index in
    let done = c.loop-node.facets.items in
    let k = length done in
    let few = c.loop-node.invariant.few in
    let rest = nodes_view (drop (i + 1) xs) in
    let made : ToldFacet = record { kind = c.in-Some.kind; values = c.in_ok-values.values } in
    let kind : kind_of_node (node_view c.node-item.result).1 ≡ Some (kind_view c.in-Some.kind.now) = sym c.facet_kind.ensures ∙ ap (option_map (λ kind. kind_view kind.now)) c.in-Some.is in
    let number : c.len.result ≡ k = c.len.ensures ∙ c.loop-node.facets.ok.0 in
    let within : k < length xs = omega (arith, c.loop-node-test.true) in
    let list : lent_view c.index.result.now.items ≡ told_of_facet A k = list_at c.in_ok-lists.lists.items A (length xs) k c.index.result.now c.in_ok-lists.ensures within (subst (λ n. c.index.result.now ≡ get_or c.in_ok-lists.lists.items n c.index.result.now) number c.index.ensures) in
    let values = c.in_ok-values.ensures.values ∙ ap (λ l. values_in (lent_view l)) c.deref.ensures.value ∙ ap values_in list in
    let own : facet_view made ≡ (kind_view c.in-Some.kind.now, values_in (told_of_facet A k)) = λ j. (kind_view c.in-Some.kind.now, values j) in
    let pushed = c.in_ok-push.ensures.items in
    let P : ToldFacet → Type 0 = λ facet. Ascend (facet_view facet).1 in
    record {
      facets = (λ j. map facet_view (pushed j) ++ facets_in A rest (length (pushed j))) ∙ (λ j. map_push facet_view done made j ++ facets_in A rest (length-push done made j))
          ∙ append_assoc (map facet_view done) (facet_view made ∷ []) (facets_in A rest (suc k)) ∙ ap (λ f. map facet_view done ++ (f ∷ facets_in A rest (suc k))) own
          ∙ ap (λ fs. map facet_view done ++ fs) (sym (next_facet A xs i c.node-item.result k (Some (kind_view c.in-Some.kind.now)) c.loop-node-test.true c.node-item.is kind)) ∙ c.loop-node.invariant.facets;
      few = omega (arith, ap length pushed, length-push done made);
      ascend = subst (All P) (sym pushed) (All-push P done made c.loop-node.invariant.ascend c.in_ok-values.ensures.ascend);
    }
