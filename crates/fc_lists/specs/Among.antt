-- Numbers among others.
use Rattle.std.specs.Prelude.{ℕ, Bool, ◌==◌, List}
use Rattle.std.specs.List.{list_any}

-- whether a number is among these
abbrev pub is_among : ℕ → List ℕ → Bool
is_among n numbers = list_any (λ number. n == number) numbers
