use Rattle.std.proofs.Common.{◌≡◌, drop, map}
use Rattle.fc_query.specs.QueryView.{query_view}
use Rattle.fc_jobs.proofs.same_filters.are_same_queries.Given as goal

-- those before are the same
abbrev pub invariant-loop-at : goal.invariant-loop-at
invariant-loop-at l = map query_view (drop l.at l.ones) ≡ map query_view (drop l.at l.others) → map query_view l.ones ≡ map query_view l.others
