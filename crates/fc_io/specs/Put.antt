-- The answers of a write.
use Rattle.std.specs.Prelude.{ℕ, ⊤}
use Rattle.fc_io.specs.Faults.{risen}
use Rattle.fc_io.specs.declared.sink.Put.{Put}
use Rattle.fc_io.specs.declared.sink.Put.TheVariants.{Took, Failed}

abbrev pub IfTook : Put → (ℕ → Type 0) → Type 0
IfTook (Took n) P = P n
IfTook Failed P = ⊤

abbrev pub OnFailed : Put → Type 0 → Type 0
OnFailed (Took n) P = ⊤
OnFailed Failed P = P

-- a count of faults after a write with this answer
abbrev pub faults_after : Put → ℕ → ℕ
faults_after (Took n) count = count
faults_after Failed count = risen count
