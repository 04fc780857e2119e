use Rattle.std.proofs.Common.{arith}
use Rattle.fc_lane.proofs.MaskedCounts.{count-turn, count-end, count_at_most}
use Rattle.fc_lane.proofs.masked.masked_count.Goals as goal

pub overflow_add-count : goal.overflow_add-count
overflow_add-count c =
    let turn = count-turn c.args.mask.now c.loop-word.word-index c.loop-word.left c.min-here.result c.bits_below.result (omega arith) c.min-here.ensures c.bits_below.ensures in
    let most = count_at_most c.args.len c.args.mask.now in
    omega arith

pub loop-word-preserved : goal.loop-word-preserved
loop-word-preserved c =
    let turn = count-turn c.args.mask.now c.loop-word.word-index c.loop-word.left c.min-here.result c.bits_below.result (omega arith) c.min-here.ensures c.bits_below.ensures in
    record { count = omega arith; left = omega arith }

pub returns : goal.returns
returns c =
    let none = count-end c.args.mask.now c.loop-word.word-index c.loop-word.left (omega arith) in
    omega arith
