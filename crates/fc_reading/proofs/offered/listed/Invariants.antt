use Rattle.std.proofs.Common.{◌≡◌, ◌++◌, map}
use Rattle.fc_refine.specs.Grouped.{map_view}
use Rattle.fc_reading.specs.Terms.{offered_view}
use Rattle.fc_refine.proofs.Growing.{seen}
use Rattle.fc_reading.proofs.offered.listed.Given as goal

abbrev pub invariant-loop-val : goal.invariant-loop-val
invariant-loop-val l = map offered_view l.list.items ++ seen (λ i. i) l.val-iterator ≡ map_view (λ i. i) l.fn.by_value
