use Rattle.std.proofs.Common.{◌≡◌, ◌++◌, List, Bool, drop}
use Rattle.fc_jobs.specs.FilterLists.{AllQueriesFit, queries_in}
use Rattle.fc_jobs.specs.Scopes.{AllEnclosingFit, filters_in}
use Rattle.fc_jobs.proofs.rebuilding.all_filters.Given as goal

abbrev pub invariant-loop-around : goal.invariant-loop-around
invariant-loop-around l = record {
  queries : queries_in l.filters.items ++ filters_in (drop l.around-index l.enclosing) ≡ filters_in l.enclosing;
  fit : (texts : List Bool) → AllEnclosingFit texts l.enclosing → AllQueriesFit texts l.filters.items;
}
