-- The terms of a column from one ordinal up to another, by number.
use Rattle.std.specs.Prelude.{ℕ, ℤ, pos, ◌+◌, ◌<◌, ◌≤◌, ◌≤ℤ◌, nat_abs, Bool, List, [], length, slice_index_or}
use Rattle.fc_spec.specs.documents.Val.{Text}
use Rattle.fc_spec.specs.requests.Buckets.{Key}
use Rattle.fc_lists.specs.Among.{is_among}
use Rattle.fc_column.specs.Terms.{ordinals_in, terms_of}
use Rattle.fc_partial.specs.TallyParts.{text_key}

-- whether the position has the term of a number
abbrev pub has_term : List (List Text) → (from : ℕ) → ℕ → ℕ → Bool
has_term column from at i = is_among (from + i) (ordinals_in column (slice_index_or column at []))

-- there is a term of the number
abbrev pub IsTermNumber : List (List Text) → (from to : ℕ) → ℤ → Type 0
IsTermNumber column from to n = (pos 0 ≤ℤ n) × ((from + nat_abs n < to) × (to ≤ length (terms_of column)))

-- the key of the term of a number
abbrev pub term_key : List (List Text) → (from : ℕ) → ℤ → Key
term_key column from n = text_key (slice_index_or (terms_of column) (from + nat_abs n) [])
