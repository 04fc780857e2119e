-- Spans of the ordinals of a column.
use Rattle.std.specs.Prelude.{◌≡◌, ℕ, ◌<◌, ◌≤◌, List, [], length, slice_index_or, Bool, not, ◌&&◌, nat_le, nat_lt}
use Rattle.fc_spec.specs.documents.Val.{Text}
use Rattle.fc_column.specs.Terms.{terms_of}
use Rattle.fc_date_range.specs.HeldDates.{is_from, is_to}

-- from one ordinal up to but not including another
abbrev pub in_span : (from past : ℕ) → ℕ → Bool
in_span from past ord = nat_le from ord && nat_lt ord past

-- the terms of the column that pass are those of the span
abbrev pub IsSpanOf : (column : List (List Text)) (test : Text → Bool) (from past : ℕ) → Type 0
IsSpanOf column test from past = (ord : ℕ) → ord < length (terms_of column) → in_span from past ord ≡ test (slice_index_or (terms_of column) ord [])

-- the terms of the column that pass are those from the ordinal on
pub record IsFirst (column : List (List Text)) (test : Text → Bool) (place : ℕ) : Type 0 where
  pub within : place ≤ length (terms_of column)
  pub exact : (ord : ℕ) → ord < length (terms_of column) → nat_le place ord ≡ test (slice_index_or (terms_of column) ord [])

-- a span begins with the first term on the right side of one date, and ends before the first term that is not on the left side of another
pub record IsBetween (column : List (List Text)) (low : Text) (with_low : Bool) (high : Text) (with_high : Bool) (from past : ℕ) : Type 0 where
  pub first : IsFirst column (is_from low with_low) from
  pub behind : IsFirst column (λ t. not (is_to high with_high t)) past
