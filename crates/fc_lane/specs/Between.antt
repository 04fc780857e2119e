-- Whether an integer lies between two others.
use Rattle.std.specs.Prelude.{ℤ, Bool, ◌&&◌, int_le, not}

-- both ends are included
abbrev pub is_between : ℤ → ℤ → ℤ → Bool
is_between lo hi value = int_le lo value && int_le value hi

abbrev pub is_outside : ℤ → ℤ → ℤ → Bool
is_outside lo hi value = not (is_between lo hi value)
