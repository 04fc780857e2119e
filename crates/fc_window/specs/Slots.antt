-- Lines of a window.
use Rattle.std.specs.Prelude.{◌≡◌, None, Ok, IfOk}
use Rattle.fc_spec.specs.documents.Schema.{Schema}
use Rattle.fc_spec.specs.scripts.ScriptReading.{Numbered}
use Rattle.fc_lines.specs.AskedLines.{asked_on}
use Rattle.fc_window.specs.Ahead.{IsAhead, IsPlaced}
use Rattle.fc_window.specs.declared.slot.Slot.{Slot}

-- the line with its number
abbrev pub line_of : Slot → Numbered
line_of slot = (slot.number, slot.text.now)

-- nothing was read of it
abbrev pub IsUnread : Slot → Type 0
IsUnread slot = slot.ahead ≡ Ok None

-- what was read of it ahead of its turn is what it says
pub record HasSaid (s : Schema) (slot : Slot) : Type 0 where
  pub answer : IsAhead (asked_on s slot.text.now) slot.ahead
  pub placed : IfOk slot.ahead (IsPlaced s)

-- the same line, read
pub record IsReadFrom (s : Schema) (before after : Slot) : Type 0 where
  pub number : after.number ≡ before.number
  pub text : after.text.now ≡ before.text.now
  pub said : HasSaid s after
