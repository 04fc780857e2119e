use Rattle.std.proofs.Common.{◌≡◌, drop}
use Rattle.fc_spec.specs.queries.QueryMeaning.{mixes_inside}
use Rattle.fc_query.specs.TreeView.{group_view}
use Rattle.fc_query.proofs.faults.+mixing.Given as goal

abbrev pub invariant-mixes_inside-loop-clause : goal.invariant-mixes_inside-loop-clause
invariant-mixes_inside-loop-clause l = mixes_inside (group_view (drop l.clause-index l.clauses)) ≡ mixes_inside (group_view l.clauses)
