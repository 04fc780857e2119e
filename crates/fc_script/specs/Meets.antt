-- What a reader answers, where its value has not all of the definition's but stands in a relation to it.
use Rattle.std.specs.Prelude.{◌≡◌, Result, Ok, Err}
use Rattle.fc_base.specs.declared.error.Refusal.{Refusal}
use Rattle.fc_base.specs.declared.error.Refusal.TheVariants.{Memory, Fault}

-- the answer is related to the definition's, or is its fault, or want of memory
abbrev pub Meets : {A V F G : Type 0} → (A → V → Type 0) → (F → G) → Result A (Refusal F) → Result V G → Type 0
Meets Related fault_view (Ok value) (Ok defined) = Related value defined
Meets Related fault_view (Ok value) (Err fault) = ⊥
Meets Related fault_view (Err Memory) defined = Unit {0}
Meets Related fault_view (Err (Fault fault)) defined = defined ≡ Err (fault_view fault)
