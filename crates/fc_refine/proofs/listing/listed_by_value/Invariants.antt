use Rattle.std.proofs.Common.{take}
use Rattle.fc_refine.specs.Grouped.{Holds, map_view}
use Rattle.fc_refine.specs.Listings.{listed_by, listed_view, parts_view}
use Rattle.fc_refine.proofs.listing.listed_by_value.Given as goal

abbrev pub invariant-loop-part : goal.invariant-loop-part
invariant-loop-part l = Holds (λ v. listed_by v (parts_view (take l.part-index l.parts))) (map_view listed_view l.by_value)
