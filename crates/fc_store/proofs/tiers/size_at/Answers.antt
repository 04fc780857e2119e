use Rattle.std.proofs.Common.{◌∙◌, ap}
use Rattle.std.specs.Arc.{arc_value}
use Rattle.fc_spec.specs.documents.Totals.{document_total}
use Rattle.fc_segment.specs.Segmented.{Segmented}
use Rattle.fc_store.proofs.Sizes.{size_here}
use Rattle.fc_store.proofs.tiers.size_at.Goals as goal

pub returns : goal.returns
returns c =
    c.doc_count.ensures ∙ ap (λ (s : Segmented). document_total s.blocks) c.deref.ensures
    ∙ size_here arc_value c.args.segments.now c.args.at c.index-segments-at.result c.requires c.index-segments-at.is
