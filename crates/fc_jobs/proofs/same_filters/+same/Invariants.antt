use Rattle.std.proofs.Common.{◌≡◌, drop, map}
use Rattle.fc_query.specs.QueryView.{clause_view}
use Rattle.fc_jobs.proofs.same_filters.+same.Given as goal

-- those before are the same
abbrev pub invariant-are_same_clauses-loop-at : goal.invariant-are_same_clauses-loop-at
invariant-are_same_clauses-loop-at l = map clause_view (drop l.at l.ones) ≡ map clause_view (drop l.at l.others) → map clause_view l.ones ≡ map clause_view l.others
