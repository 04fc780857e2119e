use Rattle.std.proofs.Common.{◌≤◌, arith, rules}
use Rattle.std.specs.Int.{w64}
use Rattle.fc_lane.specs.Between.{is_between}
use Rattle.fc_lane.proofs.MaskBits.{room_for_one}
use Rattle.fc_lane.proofs.between.word_of_few.Goals as goal
use mir.Val.{to_z, of_z}

pub overflow_mul-word : goal.overflow_mul-word
overflow_mul-word c =
    let room = room_for_one (is_between (to_z w64 (of_z w64 c.args.lo)) (to_z w64 (of_z w64 c.args.hi))) c.args.values.now c.loop-at.at (omega arith) c.loop-at.invariant.within c.requires in
    record { fits = omega (arith, room, c.loop-at.invariant.made) }

pub overflow_add-word : goal.overflow_add-word
overflow_add-word c =
    let room = room_for_one (is_between (to_z w64 (of_z w64 c.args.lo)) (to_z w64 (of_z w64 c.args.hi))) c.args.values.now c.loop-at.at (omega arith) c.loop-at.invariant.within c.requires in
    let bit : c.bit_of.result ≤ 1 = search rules in
    record { fits = omega (arith, room, bit, c.loop-at.invariant.made) }
