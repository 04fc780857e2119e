use Rattle.std.proofs.Common.{◌≡◌, ◌++◌, map, drop}
use Rattle.fc_query.specs.QueryView.{clause_view}
use Rattle.fc_query.proofs.+copying.Given as goal

abbrev pub invariant-copying::copy_clauses-loop-clause : goal.invariant-copying::copy_clauses-loop-clause
invariant-copying::copy_clauses-loop-clause l = map clause_view l.copies.items ++ map clause_view (drop l.clause-index l.clauses) ≡ map clause_view l.clauses
