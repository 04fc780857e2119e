use Rattle.std.proofs.Common.{◌≡◌, drop, length}
use Rattle.fc_spec.specs.documents.Totals.{document_total}
use Rattle.fc_jobs.specs.Scopes.{AllEnclosingFit, selected_inside}
use Rattle.fc_jobs.proofs.rebuilding.inside_all.Given as goal

-- what is left to take leads from here to where all of it leads
abbrev pub invariant-loop-around : goal.invariant-loop-around
invariant-loop-around g l = record {
  inside : selected_inside l.segment.blocks (drop l.around-index l.others) l.set ≡ selected_inside l.segment.blocks l.enclosing l.docs;
  long : length l.set ≡ document_total l.segment.blocks;
  fit : AllEnclosingFit l.segment.texts l.others;
}
