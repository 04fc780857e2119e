use Rattle.std.proofs.Common.{◌≡◌, drop}
use Rattle.fc_query.specs.QueryView.{clauses_view, need_view}
use Rattle.fc_domain.specs.Grouping.{has_need}
use Rattle.fc_domain.proofs.matching.has_need.Given as goal

abbrev pub invariant-loop-clause : goal.invariant-loop-clause
invariant-loop-clause l = has_need (need_view l.need) (clauses_view (drop l.clause-index l.clauses)) ≡ has_need (need_view l.need) (clauses_view l.clauses)
