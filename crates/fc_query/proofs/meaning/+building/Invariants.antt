use Rattle.std.proofs.Common.{drop, map, option_map}
use Rattle.fc_spec.specs.queries.QueryMeaning.{clauses_query}
use Rattle.fc_query.specs.QueryView.{clause_view}
use Rattle.fc_query.specs.TreeView.{group_view}
use Rattle.fc_query.proofs.ClausesSoFar.{AreSoFar}
use Rattle.fc_query.proofs.meaning.+building.Given as goal

abbrev pub invariant-clauses_query-loop-i : goal.invariant-clauses_query-loop-i
invariant-clauses_query-loop-i l =
    AreSoFar l.schema (option_map (λ id. id.0) l.around) (map clause_view l.queries.items) (group_view (drop l.i l.clauses))
    (clauses_query l.schema (option_map (λ id. id.0) l.around) (group_view l.clauses))
