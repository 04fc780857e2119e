use Rattle.std.proofs.Common.{◌++◌, ◌∷◌, [], ◌∙◌, ap}
use Rattle.std.proofs.lemmas.List.{map-append}
use Rattle.fc_exact.specs.ToldFacets.{told_of_facet}
use Rattle.fc_exact.specs.ToldView.{lent_view, lists_view}
use Rattle.fc_exact.proofs.Shards.{one_more}
use Rattle.fc_exact.proofs.by_facet.no_lists.Goals as goal

pub loop-facet-preserved : goal.loop-facet-preserved
loop-facet-preserved c =
    ap lists_view c.in_ok-push.ensures.items ∙ map-append (λ list. lent_view list.items) c.loop-facet.lists.items _ ∙ (λ j. c.loop-facet.invariant j ++ lent_view (c.new.ensures.items j) ∷ [])
    ∙ one_more (told_of_facet []) c.loop-facet._facet 0
