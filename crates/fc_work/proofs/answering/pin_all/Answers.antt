use Rattle.std.proofs.Common.{◌∷◌, [], map, ap, ◌∙◌, arith}
use Rattle.std.specs.Arc.{arc_value}
use Rattle.std.proofs.lemmas.List.{map-append}
use Rattle.fc_work.proofs.Pins.{no_lower_to, no_lower_with, pinned_all, pinned_more, pins_no_lower}
use Rattle.fc_work.proofs.answering.pin_all.Goals as goal

pub returns-in_err-pin-clause-no_lower : goal.returns-in_err-pin-clause-no_lower
returns-in_err-pin-clause-no_lower c k d below =
    no_lower_with c.loop-reader.reader-index c.args.readers.now (map arc_value c.loop-reader.pinned.items) c.loop-reader.readers c.reader-item.result c.pin.new.self c.loop-reader.invariant
    (omega (arith, c.loop-reader-test.true)) c.in_err-pin.ensures k d

pub returns-in_err-push-clause-no_lower : goal.returns-in_err-push-clause-no_lower
returns-in_err-push-clause-no_lower c k d below =
    no_lower_with c.loop-reader.reader-index c.args.readers.now (map arc_value c.loop-reader.pinned.items) c.loop-reader.readers c.reader-item.result c.pin.new.self c.loop-reader.invariant
    (omega (arith, c.loop-reader-test.true))
    (pins_no_lower _ (arc_value c.in_ok-pin.field-0) c.pin.new.self c.in_ok-pin.ensures) k d

pub loop-reader-preserved : goal.loop-reader-preserved
loop-reader-preserved c =
    pinned_more c.loop-reader.reader-index c.args.readers.now (map arc_value c.loop-reader.pinned.items) (map arc_value c.push.new.self.items) c.loop-reader.readers c.reader-item.result c.pin.new.self
    (arc_value c.in_ok-pin.field-0) c.loop-reader.invariant (omega (arith, c.loop-reader-test.true)) c.in_ok-pin.ensures
    (ap (map arc_value) c.in_ok-push.ensures.items ∙ map-append arc_value c.loop-reader.pinned.items (c.in_ok-pin.field-0 ∷ []))

pub returns-clause-pinned : goal.returns-clause-pinned
returns-clause-pinned c =
    pinned_all c.loop-reader.reader-index c.args.readers.now (map arc_value c.loop-reader.pinned.items) c.loop-reader.readers c.loop-reader.invariant
    (omega (arith, c.loop-reader-test.false)) (omega (arith, c.loop-reader.auto)) (omega (arith, c.loop-reader.auto))

pub returns-clause-no_lower : goal.returns-clause-no_lower
returns-clause-no_lower c k d below = no_lower_to c.loop-reader.reader-index c.args.readers.now (map arc_value c.loop-reader.pinned.items) c.loop-reader.readers c.loop-reader.invariant k d
