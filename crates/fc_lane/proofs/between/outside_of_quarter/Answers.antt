use Rattle.std.specs.Simd.Lanes.{chunk}
use Rattle.std.proofs.lemmas.Simd.{length-chunk}
use Rattle.fc_lane.proofs.TurnedLanes.{outside_of_lanes, chunk_fits}
use Rattle.fc_lane.proofs.between.outside_of_quarter.Goals as goal

pub returns : goal.returns
returns c =
    let values = c.args.values.now in
    outside_of_lanes c.args.lo c.args.hi c.ranges.lo c.ranges.hi c.requires.ordered (chunk c.args.at 16 values)
    (chunk_fits values c.args.at 16 c.requires.fit) (length-chunk c.args.at 16 values c.requires.within)
