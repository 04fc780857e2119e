use Rattle.std.proofs.Common.{◌<◌, length, arith}
use Rattle.fc_window.proofs.Parts.{left_more, read_more}
use Rattle.fc_window.proofs.window.read_part.Goals as goal

pub loop-slot-preserved : goal.loop-slot-preserved
loop-slot-preserved c =
    let l = c.loop-slot in
    let within : l.slot-index < length l.part = omega (arith, l.auto.part, c.loop-slot-test.true) in
    record {
      read = read_more c.args.schema.now c.args.part.now l.part l.slot-index c.slot-item.result c.read.new.self within l.invariant.left l.invariant.read c.read.ensures;
      left = left_more c.args.schema.now c.args.part.now l.part l.slot-index c.slot-item.result c.read.new.self within l.invariant.left;
    }
