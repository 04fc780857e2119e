-- Positions that were gathered, each once for each of its numbers.
use Rattle.std.specs.Prelude.{◌≡◌, ◌-◌, ◌&&◌, ℕ, ℤ, List, [], map, pos, slice_index_or, nat_le, nat_lt}
use Rattle.std.specs.List.{filter, list_any}
use Rattle.std.specs.Ordering.{int_eq}
use Rattle.fc_spec.specs.documents.Val.{Text}
use Rattle.fc_column.specs.Terms.{ordinals_in}
use Rattle.fc_count.specs.Counting.{Counting}
use Rattle.fc_count.specs.Runs.{positions_of}

-- a position with each of these numbers
abbrev pub countings_at : ℕ → List ℤ → List Counting
countings_at at numbers = map (λ number. record { number = number; at = at }) numbers

-- each number counts those of the positions that have it
abbrev pub AreGathered : (numbers : ℕ → List ℤ) → List ℕ → List Counting → Type 0
AreGathered numbers ks cs = (n : ℤ) → positions_of cs n ≡ filter (λ at. list_any (int_eq n) (numbers at)) ks

-- the integers of a position
abbrev pub longs_at : List (List ℤ) → ℕ → List ℤ
longs_at column at = slice_index_or column at []

-- how far the ordinals from one up to but not including another stand above the first
abbrev pub ordinals_above : (from to : ℕ) → List ℕ → List ℤ
ordinals_above from to ords = map (λ ord. pos (ord - from)) (filter (λ ord. nat_le from ord && nat_lt ord to) ords)

-- those of a position
abbrev pub terms_at : List (List Text) → (from to : ℕ) → ℕ → List ℤ
terms_at column from to at = ordinals_above from to (ordinals_in column (slice_index_or column at []))
