use Rattle.std.proofs.Common.{◌∙◌, ◌++◌, ◌∷◌, [], ap, sym, map, take}
use Rattle.std.proofs.lemmas.List.{take_more, map_push}
use Rattle.fc_spec.specs.words.Lists.{numbers_below}
use Rattle.fc_exact.specs.ToldFacets.{told_of_facet, with_told}
use Rattle.fc_exact.specs.View.{told_view}
use Rattle.fc_exact.proofs.ToldLists.{with_one_more}
use Rattle.fc_exact.proofs.by_facet.told_by_facet.Goals as goal

pub loop-one-preserved : goal.loop-one-preserved
loop-one-preserved c =
    let xs = c.args.told.now in
    let at = c.loop-one.one-index in
    let item = c.one-item.result in
    c.in_ok-add.ensures ∙ ap (with_told item.node (told_view item)) c.loop-one.invariant ∙ with_one_more (map told_view (take at xs)) (told_view item) c.args.facets
    ∙ ap (λ A. map (told_of_facet A) (numbers_below c.args.facets)) (sym (ap (map told_view) (take_more xs at item c.loop-one-test.true ∙ ap (λ p. take at xs ++ p ∷ []) (sym c.one-item.is)) ∙ map_push told_view (take at xs) item))
