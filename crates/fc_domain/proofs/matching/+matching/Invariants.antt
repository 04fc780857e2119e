use Rattle.std.proofs.Common.{◌≡◌, drop, length}
use Rattle.fc_query.specs.QueryView.{clauses_view, need_view}
use Rattle.fc_spec.specs.documents.Totals.{documents_in}
use Rattle.fc_domain.specs.FieldsFit.{AllFitFields}
use Rattle.fc_domain.proofs.TakenSoFar.{AreTaken}
use Rattle.fc_domain.proofs.matching.+matching.Given as goal

abbrev pub invariant-take_clauses-loop-clause : goal.invariant-take_clauses-loop-clause
invariant-take_clauses-loop-clause l = record {
  fits : AllFitFields l.segment.texts (clauses_view (drop l.clause-index l.clauses));
  scratch : length l.scratch ≡ length l.fn.scratch;
  taken : AreTaken (documents_in l.segment.blocks) (need_view l.need) (clauses_view (drop l.clause-index l.clauses)) (clauses_view l.clauses) l.fn.into l.into;
}
