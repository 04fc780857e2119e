use Rattle.std.proofs.Common.{◌≡◌, drop, length}
use Rattle.fc_spec.specs.documents.Totals.{document_total}
use Rattle.fc_spec.specs.requests.DomainSets.{filtered_set}
use Rattle.fc_request.specs.RequestView.{request_view}
use Rattle.fc_jobs.specs.BasesKept.{kept_base}
use Rattle.fc_jobs.specs.FilterLists.{queries_in}
use Rattle.fc_jobs.specs.Pieces.{piece_of}
use Rattle.fc_jobs.proofs.bases.made.Given as goal

-- what is left to keep leads from here to what all of it leads to
abbrev pub invariant-loop-queries : goal.invariant-loop-queries
invariant-loop-queries l = record {
  kept : filtered_set (queries_in (drop l.queries-index l.filters)) l.segment.blocks l.docs ≡ kept_base (request_view l.request) l.tags (queries_in l.filters) (piece_of l.segment);
  long : length l.docs ≡ document_total l.segment.blocks;
}
