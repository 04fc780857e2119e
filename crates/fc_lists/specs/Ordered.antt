-- Integers in ascending order, and beside each its position.
use Rattle.std.specs.Prelude.{◌≡◌, ℕ, ℤ, ◌<◌, ◌≤◌, ◌==◌, ◌&&◌, Bool, false, List, [], length, slice_index_or, count_by}
use Rattle.std.specs.List.{zip}
use Rattle.std.specs.Ordering.{int_cmp, is_lt}
use Rattle.fc_lists.specs.declared.entries.Entry.{Entry}

-- how often an integer that passes a test stands beside a position
abbrev pub count_beside : (ℤ → Bool) → ℕ → List ℤ → List ℕ → ℕ
count_beside passes at values positions = count_by (λ pair. passes pair.0 && (pair.1 == at)) (zip values positions)

-- no integer is below one ahead of it
abbrev pub Rise : List ℤ → Type 0
Rise values = (i j : ℕ) (d : ℤ) → i ≤ j → j < length values → is_lt (int_cmp (slice_index_or values j d) (slice_index_or values i d)) ≡ false

-- they are the integers of the positions
pub record AreInOrder (values : List ℤ) (positions : List ℕ) (rows : List (List ℤ)) : Type 0 where
  pub even : length positions ≡ length values
  pub rising : Rise values
  pub same : (passes : ℤ → Bool) (at : ℕ) → count_beside passes at values positions ≡ count_by passes (slice_index_or rows at [])

-- they are the integers of entries
pub record AreInOrderOf (entries : List (Entry ℤ)) (values : List ℤ) (positions : List ℕ) : Type 0 where
  pub even : length positions ≡ length values
  pub rising : Rise values
  pub same : (passes : ℤ → Bool) (at : ℕ) → count_beside passes at values positions ≡ count_by (λ entry. passes entry.item && (entry.at == at)) entries
