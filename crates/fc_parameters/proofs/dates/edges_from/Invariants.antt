use Rattle.std.proofs.Common.{◌≡◌, ◌-◌}
use Rattle.fc_spec.specs.requests.DateRangeReading.{edges_from}
use Rattle.fc_dates.specs.GapView.{gap_view}
use Rattle.fc_parameters.proofs.DateEdges.{continued}
use Rattle.fc_parameters.proofs.dates.edges_from.Given as goal

abbrev pub invariant-loop-count : goal.invariant-loop-count
invariant-loop-count l =
    edges_from l.most (gap_view l.gap) l.end.bytes l.hardend l.start.bytes ≡ continued l.edges.items (edges_from (l.most - l.count) (gap_view l.gap) l.end.bytes l.hardend l.low.bytes)
