use Rattle.std.proofs.Common.{take}
use Rattle.fc_refine.specs.Grouped.{Holds, map_view}
use Rattle.fc_exact.specs.ToldFacets.{counts_of}
use Rattle.fc_exact.specs.ToldView.{count_view, lent_view}
use Rattle.fc_exact.proofs.values.counts_by_value.Given as goal

abbrev pub invariant-loop-one : goal.invariant-loop-one
invariant-loop-one l = Holds (λ v. counts_of v (lent_view (take l.one-index l.told))) (map_view count_view l.by_value)
