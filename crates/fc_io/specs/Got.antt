-- The answers of a read.
use Rattle.std.specs.Prelude.{ℕ, ⊤}
use Rattle.fc_io.specs.Faults.{risen}
use Rattle.fc_io.specs.declared.source.Got.{Got}
use Rattle.fc_io.specs.declared.source.Got.TheVariants.{Bytes, End, Failed}

abbrev pub IfBytes : Got → (ℕ → Type 0) → Type 0
IfBytes (Bytes n) P = P n
IfBytes End P = ⊤
IfBytes Failed P = ⊤

abbrev pub OnEnd : Got → Type 0 → Type 0
OnEnd (Bytes n) P = ⊤
OnEnd End P = P
OnEnd Failed P = ⊤

abbrev pub OnFailed : Got → Type 0 → Type 0
OnFailed (Bytes n) P = ⊤
OnFailed End P = ⊤
OnFailed Failed P = P

-- a count of faults after a read with this answer
abbrev pub faults_after : Got → ℕ → ℕ
faults_after (Bytes n) count = count
faults_after End count = count
faults_after Failed count = risen count
