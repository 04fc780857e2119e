-- Bytes that spell a message.
use Rattle.std.specs.Prelude.{ℕ, List, Option, None, Some, Vec}
use Rattle.std.specs.declared.alloc.Global.{Global}
use Rattle.fc_spec.specs.messages.Message.{Partials}
use Rattle.fc_spec.specs.messages.Nesting.{Spells}

-- one or another
abbrev pub SpellSome : List ℕ → Type 0
SpellSome bytes = (m : Partials) × Spells bytes m

-- this one: bytes that are there
abbrev pub AreBytesOf : Option (Vec ℕ Global) → Partials → Type 0
AreBytesOf None m = ⊥
AreBytesOf (Some bytes) m = Spells bytes.items m
