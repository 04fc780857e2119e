-- Reply trees: what is printed, and nothing else. Guide: JSON Facet API, "Bucketing Facet Example".
use Rattle.std.specs.Prelude.{ℕ, ℤ, Option, None, Some, List, [], ◌∷◌}
use Rattle.fc_spec.specs.documents.Val.{Text, Val, text, long}
use Rattle.fc_spec.specs.requests.Request.{Kind, terms, range, query, date_range}
use Rattle.fc_spec.specs.requests.Buckets.{Key, value, missing, gap, before, between, after, whole}
use Rattle.fc_spec.specs.requests.Gaps.{low_end}
use Rattle.fc_spec.specs.requests.DateGaps.{low_date}

-- where a bucket of a facet is printed: in its list of buckets, or beside it under a name of its own
pub data Spot : Type 0 where
  listed : Spot
  as_missing : Spot
  as_before : Spot
  as_between : Spot
  as_after : Spot

-- a bucket has its `val`, where it has one, its count and its facets; a facet is a number, one bucket, a row of buckets, or a row with a number beside it
mutual
  pub data Bucket : Type 0 where
    bucket : Option Val → ℕ → Facets → Bucket

  pub data Facets : Type 0 where
    no_facets : Facets
    number : Text → ℤ → Facets → Facets
    one : Text → Bucket → Facets → Facets
    many : Text → Row → Facets → Facets
    counted : Text → ℕ → Row → Facets → Facets

  pub data Row : Type 0 where
    no_parts : Row
    part : Spot → Bucket → Row → Row

-- where the bucket of a key is printed
abbrev pub spot_of : Key → Spot
spot_of missing = as_missing
spot_of before = as_before
spot_of between = as_between
spot_of after = as_after
spot_of _ = listed

-- the `val` of the bucket of a key: the value, or the low end of the gap
abbrev pub val_of : Kind → Key → Option Val
val_of (terms t) (value v) = Some v
val_of (range g) (gap i) = Some (long (low_end g i))
val_of (date_range g) (gap i) = Some (text (low_date g i))
val_of _ _ = None

-- a row with one bucket for each key
abbrev pub row_of : Kind → (count : Key → ℕ) → (inside : Key → Facets) → List Key → Row
row_of kind count inside [] = no_parts
row_of kind count inside (k ∷ ks) = part (spot_of k) (bucket (val_of kind k) (count k) (inside k)) (row_of kind count inside ks)

-- the facets with a number before them, where it is there
abbrev pub with_number : Text → Option ℤ → Facets → Facets
with_number name None more = more
with_number name (Some n) more = number name n more

-- the facets with the buckets of one more before them: of a query facet its one bucket, whatever the keys, of another facet the row of the keys
abbrev pub with_buckets : Text → Kind → (count : Key → ℕ) → (inside : Key → Facets) → List Key → Facets → Facets
with_buckets name (terms t) count inside keys more = many name (row_of (terms t) count inside keys) more
with_buckets name (range g) count inside keys more = many name (row_of (range g) count inside keys) more
with_buckets name (date_range g) count inside keys more = many name (row_of (date_range g) count inside keys) more
with_buckets name (query q) count inside keys more = one name (bucket None (count whole) (inside whole)) more
