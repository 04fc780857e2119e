use Rattle.std.proofs.Common.{◌≡◌, ◌++◌, map, drop}
use Rattle.fc_query.specs.QueryView.{query_view}
use Rattle.fc_query.proofs.copying.copy_queries.Given as goal

abbrev pub invariant-loop-query : goal.invariant-loop-query
invariant-loop-query l = map query_view l.copies.items ++ map query_view (drop l.query-index l.queries) ≡ map query_view l.queries
