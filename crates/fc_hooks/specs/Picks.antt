-- Which of the waiting shards is next.
use Rattle.std.specs.Prelude.{◌≡◌, ◌⊎◌, ℕ, ◌<◌, ◌≤◌, ◌%◌, List, [], ◌∷◌, length, Option, None, Some, slice_index}

-- the place is that of the first number above another
pub record IsFirstAbove (last : ℕ) (numbers : List ℕ) (place : ℕ) : Type 0 where
  pub there : place < length numbers
  pub above : last < slice_index numbers place
  pub first : (k : ℕ) → k < place → slice_index numbers k ≤ last

-- the place is that of the number behind the last one; the first place, where there is none behind it or none was last
abbrev pub IsBehind : Option ℕ → List ℕ → ℕ → Type 0
IsBehind None waiting place = place ≡ 0
IsBehind (Some last) waiting place = IsFirstAbove last waiting place ⊎ ((place ≡ 0) × ((k : ℕ) → k < length waiting → slice_index waiting k ≤ last))

-- by a list of numbers: the first of them, round about; the first place, where there is none
abbrev pub place_by : List ℕ → List ℕ → ℕ
place_by [] waiting = 0
place_by (n ∷ ns) waiting = n % length waiting
