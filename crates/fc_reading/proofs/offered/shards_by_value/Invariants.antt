use Rattle.std.proofs.Common.{◌≡◌, ℕ, List, map, take}
use Rattle.std.specs.List.{filter}
use Rattle.fc_spec.specs.documents.Val.{Val, has_val}
use Rattle.fc_request.specs.FacetNode.{vals_view}
use Rattle.fc_refine.specs.Grouped.{Holds, map_view}
use Rattle.fc_reading.proofs.offered.shards_by_value.Given as goal

abbrev pub invariant-loop-at : goal.invariant-loop-at
invariant-loop-at l = (f : ℕ → List Val) → map (λ list. vals_view list.items) l.offers ≡ map f l.shards
    → Holds (λ v. filter (λ i. has_val v (f i)) (take l.at l.shards)) (map_view (λ i. i) l.by_value)
