use Rattle.std.proofs.Common.{◌≡◌, drop, length, true}
use Rattle.fc_spec.specs.documents.Totals.{document_total}
use Rattle.fc_spec.specs.laws.LacksLaws.{names_keys}
use Rattle.fc_refine.specs.AskView.{way_view}
use Rattle.fc_request.specs.NodeView.{nodes_view}
use Rattle.fc_request.specs.RequestView.{request_view}
use Rattle.fc_spec.specs.requests.Paths.{at_root}
use Rattle.fc_answers.specs.SetAnswer.{scope_on}
use Rattle.fc_jobs.specs.BasesKept.{StayBases}
use Rattle.fc_jobs.specs.FacetFits.{AllFit}
use Rattle.fc_jobs.specs.Pieces.{piece_of}
use Rattle.fc_jobs.specs.Scopes.{AllEnclosingFit, scope_over}
use Rattle.fc_jobs.specs.Walked.{scope_along, walked}
use Rattle.fc_jobs.proofs.walking.domain_where.Given as goal

-- what is left of the way leads from here to where all of it leads
abbrev pub invariant-loop-step : goal.invariant-loop-step
invariant-loop-step g l = record {
  there : walked (scope_over (request_view l.request) l.enclosing.items) (piece_of l.segment) (nodes_view l.nodes) l.docs (way_view (drop l.step-index l.way))
      ≡ walked (scope_on (request_view l.request) at_root) (piece_of l.segment) (request_view l.request).nodes l.base_docs (way_view l.way);
  scope : scope_along (scope_over (request_view l.request) l.enclosing.items) (nodes_view l.nodes) (way_view (drop l.step-index l.way))
      ≡ scope_along (scope_on (request_view l.request) at_root) (request_view l.request).nodes (way_view l.way);
  enclosing : AllEnclosingFit l.segment.texts l.enclosing.items;
  long : length l.docs ≡ document_total l.segment.blocks;
  fit : AllFit l.segment.texts (nodes_view l.nodes);
  kept : StayBases (request_view l.request) l.at (piece_of l.segment) l.initial.bases l.bases;
  keys : names_keys (nodes_view l.nodes) (way_view (drop l.step-index l.way)) ≡ true;
}
