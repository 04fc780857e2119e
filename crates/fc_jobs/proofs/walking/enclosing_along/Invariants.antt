use Rattle.std.proofs.Common.{◌≡◌, List, Bool, drop, true}
use Rattle.fc_spec.specs.laws.LacksLaws.{names_keys}
use Rattle.fc_refine.specs.AskView.{way_view}
use Rattle.fc_request.specs.NodeView.{nodes_view}
use Rattle.fc_answers.specs.SetAnswer.{Scope}
use Rattle.fc_jobs.specs.FacetFits.{AllFit}
use Rattle.fc_jobs.specs.Scopes.{AllEnclosingFit, scope_from}
use Rattle.fc_jobs.specs.Walked.{scope_along}
use Rattle.fc_jobs.proofs.walking.enclosing_along.Given as goal

-- what is left of the way leads from here to where all of it leads
abbrev pub invariant-loop-step : goal.invariant-loop-step
invariant-loop-step l = record {
  scope : (o : Scope) → scope_along (scope_from o l.enclosing.items) (nodes_view l.nodes) (way_view (drop l.step-index l.way)) ≡ scope_along o (nodes_view l.all) (way_view l.way);
  fit : (texts : List Bool) → AllFit texts (nodes_view l.all) → AllFit texts (nodes_view l.nodes) × AllEnclosingFit texts l.enclosing.items;
  keys : names_keys (nodes_view l.nodes) (way_view (drop l.step-index l.way)) ≡ true;
}
