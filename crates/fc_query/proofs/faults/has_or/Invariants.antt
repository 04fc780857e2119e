use Rattle.std.proofs.Common.{◌≡◌, drop}
use Rattle.fc_spec.specs.queries.QueryMeaning.{has_or}
use Rattle.fc_query.specs.TreeView.{group_view}
use Rattle.fc_query.proofs.faults.has_or.Given as goal

abbrev pub invariant-loop-clause : goal.invariant-loop-clause
invariant-loop-clause l = has_or (group_view (drop l.clause-index l.clauses)) ≡ has_or (group_view l.clauses)
