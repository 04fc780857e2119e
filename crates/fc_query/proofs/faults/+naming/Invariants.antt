use Rattle.std.proofs.Common.{◌≡◌, drop}
use Rattle.fc_spec.specs.queries.QueryMeaning.{has_unknown}
use Rattle.fc_query.specs.TreeView.{group_view}
use Rattle.fc_query.proofs.faults.+naming.Given as goal

abbrev pub invariant-has_unknown-loop-clause : goal.invariant-has_unknown-loop-clause
invariant-has_unknown-loop-clause l = has_unknown l.schema (group_view (drop l.clause-index l.clauses)) ≡ has_unknown l.schema (group_view l.clauses)
