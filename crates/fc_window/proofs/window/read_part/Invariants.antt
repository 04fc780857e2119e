use Rattle.std.proofs.Common.{◌≡◌, ℕ, ◌<◌, ◌≤◌, get_or}
use Rattle.fc_window.specs.Slots.{IsReadFrom}
use Rattle.fc_window.specs.declared.slot.Slot.{Slot}
use Rattle.fc_window.proofs.window.read_part.Given as goal

abbrev pub invariant-loop-slot : goal.invariant-loop-slot
invariant-loop-slot l = record {
  read : (i : ℕ) (d : Slot) → i < l.slot-index → IsReadFrom l.schema (get_or l.initial.part i d) (get_or l.part i d);
  left : (i : ℕ) (d : Slot) → l.slot-index ≤ i → get_or l.part i d ≡ get_or l.initial.part i d;
}
