-- The terms that begin with a prefix.
use Rattle.std.specs.Prelude.{◌≡◌, ℕ, ◌<◌, ◌≤◌, List, [], length, slice_index_or, ◌&&◌, nat_le, nat_lt, Option}
use Rattle.fc_spec.specs.documents.Val.{Text, text}
use Rattle.fc_spec.specs.requests.Buckets.{has_prefix}
use Rattle.fc_column.specs.Terms.{terms_of}

-- the terms of the column that begin with the prefix are those from one ordinal up to but not including the other
pub record IsPrefixSpan (prefix : Option Text) (column : List (List Text)) (from to : ℕ) : Type 0 where
  pub order : from ≤ to
  pub within : to ≤ length (terms_of column)
  pub exact : (ord : ℕ) → ord < length (terms_of column) → has_prefix prefix (text (slice_index_or (terms_of column) ord [])) ≡ (nat_le from ord && nat_lt ord to)
