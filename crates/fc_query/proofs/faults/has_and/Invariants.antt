use Rattle.std.proofs.Common.{◌≡◌, drop}
use Rattle.fc_spec.specs.queries.QueryMeaning.{has_and}
use Rattle.fc_query.specs.TreeView.{group_view}
use Rattle.fc_query.proofs.faults.has_and.Given as goal

abbrev pub invariant-loop-clause : goal.invariant-loop-clause
invariant-loop-clause l = has_and (group_view (drop l.clause-index l.clauses)) ≡ has_and (group_view l.clauses)
