-- Which places a bucket holds. Guide: JSON Facet API, "Types of Facets".
use Rattle.std.specs.Prelude.{ℕ, ℤ, List, Bool, true, false, ◌&&◌, Option, None, Some, nat_eq, nat_lt}
use Rattle.std.specs.List.{filter, list_any, starts_with}
use Rattle.fc_spec.specs.documents.Val.{Text, Val, text, long, has_val}
use Rattle.fc_spec.specs.documents.Document.{Document, values_of}
use Rattle.fc_spec.specs.words.Lists.{is_empty}
use Rattle.fc_spec.specs.queries.Matching.{matches}
use Rattle.fc_spec.specs.documents.World.{Place}
use Rattle.fc_spec.specs.requests.Request.{Terms, Range, DateRange, Kind, terms, range, query, date_range}
use Rattle.fc_spec.specs.requests.Gaps.{gap_count, in_gap, in_before, in_after, in_between}
use Rattle.fc_spec.specs.requests.DateGaps.{date_gap_count, in_date_gap, in_dates_before, in_dates_after, in_dates_between}

-- what tells the buckets of a node apart
pub data Key : Type 0 where
  value : Val → Key
  missing : Key
  gap : ℕ → Key
  before : Key
  between : Key
  after : Key
  whole : Key

-- the value begins with the prefix, where one is given; an integer begins with none
abbrev pub has_prefix : Option Text → Val → Bool
has_prefix None v = true
has_prefix (Some prefix) (text t) = starts_with nat_eq t prefix
has_prefix (Some prefix) (long n) = false

-- a document with these values in the field is in the bucket of a terms facet
abbrev pub in_terms : Terms → Key → List Val → Bool
in_terms t (value v) vs = has_val v vs && has_prefix t.prefix v
in_terms t missing vs = is_empty vs
in_terms t _ vs = false

-- the integer is in the bucket of a range facet
abbrev pub holds_integer : Range → Key → ℤ → Bool
holds_integer g (gap i) x = in_gap g i x
holds_integer g before x = in_before g x
holds_integer g between x = in_between g x
holds_integer g after x = in_after g x
holds_integer g _ x = false

-- the value is; a text is in none
abbrev pub in_range : Range → Key → Val → Bool
in_range g key (text t) = false
in_range g key (long x) = holds_integer g key x

-- the canonical text is in the bucket of a range facet over dates
abbrev pub holds_date : DateRange → Key → Text → Bool
holds_date g (gap i) t = in_date_gap g i t
holds_date g before t = in_dates_before g t
holds_date g between t = in_dates_between g t
holds_date g after t = in_dates_after g t
holds_date g _ t = false

-- the value is; an integer is in none
abbrev pub in_date_range : DateRange → Key → Val → Bool
in_date_range g key (text t) = holds_date g key t
in_date_range g key (long x) = false

-- it is the key of a query facet's bucket
abbrev pub is_whole : Key → Bool
is_whole whole = true
is_whole _ = false

-- the key is one of the facet's: a value that begins with the prefix, and missing where asked; a gap that is there, and those beside the gaps that are asked for; the whole
abbrev pub is_terms_key : Terms → Key → Bool
is_terms_key t (value v) = has_prefix t.prefix v
is_terms_key t missing = t.missing
is_terms_key t _ = false

abbrev pub is_range_key : Range → Key → Bool
is_range_key g (gap i) = nat_lt i (gap_count g)
is_range_key g before = g.before
is_range_key g between = g.between
is_range_key g after = g.after
is_range_key g _ = false

abbrev pub is_date_range_key : DateRange → Key → Bool
is_date_range_key g (gap i) = nat_lt i (date_gap_count g)
is_date_range_key g before = g.before
is_date_range_key g between = g.between
is_date_range_key g after = g.after
is_date_range_key g _ = false

abbrev pub is_key_of : Kind → Key → Bool
is_key_of (terms t) key = is_terms_key t key
is_key_of (range g) key = is_range_key g key
is_key_of (query q) key = is_whole key
is_key_of (date_range g) key = is_date_range_key g key

-- the document is in the bucket
abbrev pub in_bucket : Kind → Key → Document → Bool
in_bucket (terms t) key d = in_terms t key (values_of d t.field)
in_bucket (range g) key d = list_any (in_range g key) (values_of d g.field)
in_bucket (query q) key d = is_whole key && matches q d
in_bucket (date_range g) key d = list_any (in_date_range g key) (values_of d g.field)

-- the places of X whose document is in the bucket
abbrev pub bucket_places : Kind → Key → List Place → List Place
bucket_places kind key X = filter (λ p. in_bucket kind key p.document) X
