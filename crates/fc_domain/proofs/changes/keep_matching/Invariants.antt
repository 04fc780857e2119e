use Rattle.std.proofs.Common.{◌≡◌, drop, length, map}
use Rattle.fc_spec.specs.documents.Totals.{document_total}
use Rattle.fc_spec.specs.queries.Matching.{matches}
use Rattle.fc_query.specs.QueryView.{query_view}
use Rattle.fc_domain.proofs.StepSets.{AreFilteredTo}
use Rattle.fc_domain.proofs.changes.keep_matching.Given as goal

abbrev pub invariant-loop-query : goal.invariant-loop-query
invariant-loop-query l =
    AreFilteredTo matches l.segment.blocks (map query_view (drop l.query-index l.queries)) (map query_view l.queries) l.fn.into l.into
    × (length l.answers ≡ document_total l.segment.blocks)
