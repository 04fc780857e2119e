use Rattle.std.proofs.Common.{drop, get_or, map, refl, sym, ◌∙◌, ap, subst, arith}
use Rattle.std.proofs.lemmas.List.{drop_all}
use Rattle.std.proofs.lemmas.List.Elements.{All-rest}
use Rattle.fc_window.specs.Slots.{HasSaid, line_of}
use Rattle.fc_script.proofs.WindowsRead.{first_of_all, goes_on, next_left, went}
use Rattle.fc_script.proofs.script_reader.ScriptReader.with_window.Goals as goal

pub loop-slot-init : goal.loop-slot-init
loop-slot-init c = record {
  goes = λ S has. record { now = S; has = has; same = refl };
  schema = refl;
  said = c.requires;
}

pub with_slot-requires : goal.with_slot-requires
with_slot-requires c =
    let here = next_left c.loop-slot.window c.loop-slot.slot-index c.slot-item.result c.slot-item.result (omega arith) in
    subst (λ s. HasSaid s (get_or c.loop-slot.window c.loop-slot.slot-index c.slot-item.result)) (sym c.loop-slot.invariant.schema) (first_of_all (HasSaid c.args.self.schema) _ _ _ here c.loop-slot.invariant.said)

pub loop-slot-preserved : goal.loop-slot-preserved
loop-slot-preserved c =
    let here = next_left c.loop-slot.window c.loop-slot.slot-index c.slot-item.result c.with_slot.new.slot (omega arith) in
    record {
      goes = λ S has. goes_on S (map line_of c.args.window.now) (map line_of (drop c.loop-slot.slot-index c.loop-slot.window)) c.loop-slot.reading c.in_ok-reading.reading _ _
          (c.loop-slot.invariant.goes S has) (ap (map line_of) here) c.in_ok-reading.ensures.meets;
      schema = c.in_ok-reading.ensures.schema ∙ c.loop-slot.invariant.schema;
      said = All-rest (HasSaid c.args.self.schema) _ _ _ here c.loop-slot.invariant.said;
    }

pub returns : goal.returns
returns c = λ S has.
    went S (map line_of c.args.window.now) _ c.loop-slot.reading (c.loop-slot.invariant.goes S has) (ap (map line_of) (drop_all c.loop-slot.slot-index c.loop-slot.window (omega arith)))
