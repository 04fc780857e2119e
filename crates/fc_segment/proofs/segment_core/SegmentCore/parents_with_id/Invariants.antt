use Rattle.std.proofs.Common.{◌≡◌, ℕ, ◌||◌, length, take}
use Rattle.std.specs.List.{list_any}
use Rattle.fc_docset.specs.Positions.{contains}
use Rattle.fc_segment.specs.BlockPositions.{is_in_block_of}
use Rattle.fc_segment.proofs.segment_core.SegmentCore.parents_with_id.Given as goal

abbrev pub invariant-loop-parent : goal.invariant-loop-parent
invariant-loop-parent l = record {
  set : (k : ℕ) → contains l.into k ≡ (contains l.fn.into k || list_any (λ at. is_in_block_of l.self.blocks at k) (take l.parent-index l.parent-items));
  size : length l.into ≡ length l.fn.into;
}
