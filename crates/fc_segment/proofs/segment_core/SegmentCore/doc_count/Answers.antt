use Rattle.std.proofs.Common.{◌∙◌, ap, sym}
use Rattle.fc_spec.specs.documents.Totals.{document_total}
use Rattle.fc_segment.specs.Columned.{Columned}
use Rattle.fc_segment.proofs.StoredBlocks.{document_total-stored}
use Rattle.fc_segment.proofs.segment_core.SegmentCore.doc_count.Goals as goal

pub returns : goal.returns
returns c = c.len.ensures ∙ sym (document_total-stored c.self.inside c.self.invariant) ∙ ap (λ (s : Columned). document_total s.blocks) c.self.view_is
