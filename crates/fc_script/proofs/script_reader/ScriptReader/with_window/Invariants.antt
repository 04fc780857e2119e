use Rattle.std.proofs.Common.{◌≡◌, All, drop, map}
use Rattle.fc_window.specs.Slots.{HasSaid, line_of}
use Rattle.fc_script.specs.ReadSoFar.{ReadSoFar}
use Rattle.fc_script.specs.ReadView.{HasRead}
use Rattle.fc_script.proofs.WindowsRead.{GoesOn}
use Rattle.fc_script.proofs.script_reader.ScriptReader.with_window.Given as goal

abbrev pub invariant-loop-slot : goal.invariant-loop-slot
invariant-loop-slot l = record {
  goes : (S : ReadSoFar) → HasRead l.fn.self S → GoesOn S (map line_of l.initial.window) l.reading (map line_of (drop l.slot-index l.window));
  schema : l.reading.schema ≡ l.fn.self.schema;
  said : All (HasSaid l.fn.self.schema) (drop l.slot-index l.window);
}
