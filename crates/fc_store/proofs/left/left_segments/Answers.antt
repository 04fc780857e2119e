use Rattle.std.proofs.Common.{◌≡◌, get_or, false, true}
use Rattle.std.specs.Arc.{arc_value}
use Rattle.fc_segment.specs.Segmented.{Segmented}
use Rattle.fc_store.proofs.Sizes.{at_place}
use Rattle.fc_store.proofs.left.left_segments.Goals as goal

pub without_ids-requires : goal.without_ids-requires
without_ids-requires c =
    at_place (λ (s : Segmented). get_or s.texts 0 false ≡ true) arc_value c.args.segments.now c.loop-segment.segment-index c.segment-item.result c.requires c.loop-segment-test.true c.segment-item.is
