-- What a reader answers.
use Rattle.std.specs.Prelude.{◌≡◌, Option, Result, Ok, Err, ok_or}
use Rattle.fc_base.specs.declared.error.Refusal.{Refusal}
use Rattle.fc_base.specs.declared.error.Refusal.TheVariants.{Memory, Fault}

-- The answer is the definition's, or its fault, or want of memory.
-- `view` says what a value stands for in the definitions, and `fault_view` what a fault does.
abbrev pub Answers : {A V F G : Type 0} → (A → V) → (F → G) → Result A (Refusal F) → Result V G → Type 0
Answers view fault_view (Ok value) defined = defined ≡ Ok (view value)
Answers view fault_view (Err Memory) defined = Unit {0}
Answers view fault_view (Err (Fault fault)) defined = defined ≡ Err (fault_view fault)

-- What a definition gives that has one fault, and says it by none.
abbrev pub or_fault : {V : Type 0} → Option V → Result V (Unit {0})
or_fault defined = ok_or defined tt

-- The one fault that there is.
abbrev pub one_fault : {F : Type 0} → F → Unit {0}
one_fault fault = tt
