use Rattle.std.proofs.Common.{◌∙◌, ◌++◌, ◌∷◌, [], ap, sym, take}
use Rattle.std.proofs.lemmas.List.{take_more, map_push}
use Rattle.fc_refine.specs.Listings.{listed_by, listed_view, part_view, parts_view}
use Rattle.fc_refine.proofs.ListedValues.{holds_by, holds_nothing, listed_by_more}
use Rattle.fc_refine.proofs.listing.listed_by_value.Goals as goal

pub loop-part-init : goal.loop-part-init
loop-part-init c = rw c.new-by_value.ensures.empty holds_nothing

pub loop-part-preserved : goal.loop-part-preserved
loop-part-preserved c =
    let xs = c.args.parts.now in
    let at = c.loop-part.part-index in
    let item = c.part-item.result in
    holds_by listed_view _ _ _ c.loop-part.by_value c.push_part.new.by_value c.loop-part.invariant c.in_ok-push_part.ensures
    (λ v. ap (λ l. listed_by v (parts_view l)) (take_more xs at item c.loop-part-test.true ∙ ap (λ p. take at xs ++ p ∷ []) (sym c.part-item.is))
    ∙ ap (listed_by v) (map_push part_view (take at xs) item) ∙ listed_by_more v (parts_view (take at xs)) (part_view item))
