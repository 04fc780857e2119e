use Rattle.std.proofs.Common.{◌≡◌, drop, map}
use Rattle.fc_query.specs.QueryView.{query_view}
use Rattle.fc_jobs.proofs.same_filters.are_same.Given as goal

-- those before are the same
abbrev pub invariant-loop-at : goal.invariant-loop-at
invariant-loop-at l =
    map (λ qs. map query_view qs.now) (drop l.at l.ones) ≡ map (λ qs. map query_view qs.now) (drop l.at l.others) → map (λ qs. map query_view qs.now) l.ones ≡ map (λ qs. map query_view qs.now) l.others
