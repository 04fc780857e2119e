-- Refusals that are no want of memory.
use Rattle.std.specs.Prelude.{Result, Ok, Err}
use Rattle.fc_base.specs.declared.error.Refusal.{Refusal}
use Rattle.fc_base.specs.declared.error.Refusal.TheVariants.{Memory, Fault}

-- it answers a fault
abbrev pub IsFault : {A F : Type 0} → Result A (Refusal F) → Type 0
IsFault (Ok a) = ⊥
IsFault (Err Memory) = ⊥
IsFault (Err (Fault f)) = Unit {0}
