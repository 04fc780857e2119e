use Rattle.std.proofs.Common.{◌∙◌, true, length, replicate, ap, sym, subst}
use Rattle.std.specs.Arc.{arc_value}
use Rattle.fc_spec.specs.documents.Live.{HasWholeBlocks}
use Rattle.fc_spec.specs.documents.Totals.{documents_in}
use Rattle.fc_segment.specs.Columned.{Columned}
use Rattle.fc_segment.proofs.MergedMarks.{full_has}
use Rattle.fc_segment.proofs.segment.Segment.all_live.Goals as goal

pub invariant_of-result : goal.invariant_of-result
invariant_of-result c = record {
  whole = subst (λ set. HasWholeBlocks (arc_value c.in_ok-core.core).blocks set)
      (ap (λ (s : Columned). replicate (length (documents_in s.blocks)) true) c.in_ok-core.ensures.ok ∙ ap (λ n. replicate n true) (sym c.doc_count.ensures) ∙ sym c.in_ok-live.ensures)
      (full_has (arc_value c.in_ok-core.core).blocks);
}
