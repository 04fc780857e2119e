use Rattle.std.proofs.Common.{◌∙◌, ap, sym}
use Rattle.fc_segment.specs.Parents.{parents_in}
use Rattle.fc_segment.specs.Columned.{Columned}
use Rattle.fc_segment.proofs.StoredBlocks.{parents_in-stored}
use Rattle.fc_segment.proofs.segment_core.SegmentCore.parents.Goals as goal

pub returns : goal.returns
returns c = sym (parents_in-stored c.self.inside c.self.invariant) ∙ ap (λ (s : Columned). parents_in s.blocks) c.self.view_is
