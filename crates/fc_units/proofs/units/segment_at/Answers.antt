use Rattle.std.specs.Arc.{arc_value}
use Rattle.fc_units.proofs.Segments.{shared_stands}
use Rattle.fc_units.proofs.units.segment_at.Goals as goal

pub returns-then-at-segments : goal.returns-then-at-segments
returns-then-at-segments c = shared_stands arc_value c.args.segments.now c.args.at c.index-segments-at.result c.deref.result.now c.if-at-segments.true c.index-segments-at.is c.deref.ensures
