use Rattle.std.proofs.Common.{◌∙◌, ◌++◌, ◌∷◌, [], ap, sym, take}
use Rattle.std.proofs.lemmas.List.{take_more, map_push}
use Rattle.fc_refine.proofs.Growing.{holds_more}
use Rattle.fc_exact.specs.ToldFacets.{counts_of}
use Rattle.fc_exact.specs.ToldView.{count_view, lent_view}
use Rattle.fc_exact.specs.View.{told_view}
use Rattle.fc_exact.proofs.ToldLists.{counts_more}
use Rattle.fc_exact.proofs.ValueMaps.{holds_none}
use Rattle.fc_exact.proofs.values.counts_by_value.Goals as goal

pub loop-one-init : goal.loop-one-init
loop-one-init c = rw c.new-by_value.ensures.empty holds_none

pub loop-one-preserved : goal.loop-one-preserved
loop-one-preserved c =
    let xs = c.args.told.now in
    let at = c.loop-one.one-index in
    let item = c.one-item.result in
    holds_more count_view _ _ _ c.loop-one.by_value c.push_count.new.by_value _ c.loop-one.invariant c.in_ok-push_count.ensures
    (λ v. ap (λ l. counts_of v (lent_view l)) (take_more xs at item c.loop-one-test.true ∙ ap (λ p. take at xs ++ p ∷ []) (sym c.one-item.is))
    ∙ ap (counts_of v) (map_push (λ t. told_view t.now) (take at xs) item) ∙ counts_more v (lent_view (take at xs)) (told_view item.now))
