use Rattle.std.proofs.Common.{◌≡◌, List, Bool, All, drop}
use Rattle.fc_refine.specs.AskView.{ask_view}
use Rattle.fc_partial.specs.View.{key_view}
use Rattle.fc_request.specs.RequestView.{request_view}
use Rattle.fc_jobs.specs.FacetFits.{AllFit}
use Rattle.fc_jobs.specs.Scopes.{AllEnclosingFit, KeyFits, scope_over}
use Rattle.fc_levels.specs.Levels.{scope_in}
use Rattle.fc_levels.specs.declared.level.Level.{Level}
use Rattle.fc_units.specs.Asked.{top_scope}
use Rattle.fc_units.proofs.enclosing.enclosing_at.Given as goal

-- the levels that are left lead from here to where all of them lead
abbrev pub invariant-loop-level : goal.invariant-loop-level
invariant-loop-level l = record {
  scope : scope_in (scope_over (request_view l.request) l.enclosing.items) (drop l.level-index l.levels) ≡ scope_in (top_scope (request_view l.request) (ask_view l.ask) l.number) l.levels;
  fit : (texts : List Bool) → AllFit texts (request_view l.request).nodes → All (λ (x : Level). KeyFits texts x.node.now (key_view x.key)) l.levels → AllEnclosingFit texts l.enclosing.items;
}
