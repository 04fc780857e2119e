-- The parameters of each type of facet, in their order. Guide: JSON Facet API, "Types of Facets".
use Rattle.std.specs.Prelude.{ℕ, ◌+◌, ◌/◌, ℤ, pos, negsuc, unsigned_abs, int_lt, List, [], ◌∷◌, codes, Bool, true, false, not, if◌then◌else◌, ◌&&◌, ◌||◌, nat_le, Option, None, Some, ok_or, Result, Ok}
use Rattle.std.specs.List.{list_all, list_any}
use Rattle.serde_json.specs.Data.{Data, string, Members}
use Rattle.fc_spec.specs.documents.Val.{Text, same_text}
use Rattle.fc_spec.specs.words.Lists.{is_empty}
use Rattle.fc_spec.specs.documents.Schema.{Schema, field_named, holds_texts}
use Rattle.fc_spec.specs.documents.IntegerTexts.{is_long}
use Rattle.fc_spec.specs.requests.Request.{Terms, its_buckets, Range, Kind, query}
use Rattle.fc_spec.specs.requests.Gaps.{gap_count, last_end}
use Rattle.fc_spec.specs.requests.RequestFault.{QFault, unknown_field, bad_parameter, wrong_field_type, too_large}
use Rattle.fc_spec.specs.requests.RequestWalk.{required, optional, integer_in, whole_in, truth_in, text_in}
use Rattle.fc_spec.specs.requests.StatisticReading.{has_type}
use Rattle.fc_spec.specs.requests.SortReading.{default_sort}
use Rattle.fc_spec.specs.requests.DomainReading.{text_query, texts_in}
use Rattle.fc_spec.specs.words.Walks.{◌>>=◌, unless}

-- the field of this name
abbrev pub field_in : Schema → Data → Result ℕ QFault
field_in s d = do
  name ← text_in d
  ok_or (field_named s name) unknown_field

-- ---- terms

-- a whole number from this one to a million
abbrev pub up_to_a_million : ℤ → Data → Result ℤ QFault
up_to_a_million low d = whole_in low (pos 1_000_000) d

-- all for -1
abbrev pub limit_from : ℤ → Option ℕ
limit_from (pos n) = Some n
limit_from (negsuc n) = None

-- a text, on a field of texts
abbrev pub prefix_in : Schema → ℕ → Data → Result (Option Text) QFault
prefix_in s field d = do
  t ← text_in d
  _ ← unless (has_type s holds_texts field) wrong_field_type
  Ok (Some t)

-- a tenth of the limit and 4 where it is -1; without a limit 0
abbrev pub over_number : Option ℕ → ℤ → ℕ
over_number None over = 0
over_number (Some limit) (pos n) = n
over_number (Some limit) (negsuc n) = limit / 10 + 4

-- the three ways to refine
pub data Refining : Type 0 where
  not_refined : Refining
  by_offers : Refining
  exactly : Refining

abbrev pub refines : Refining → Bool
refines not_refined = false
refines _ = true

abbrev pub is_exactly : Refining → Bool
is_exactly exactly = true
is_exactly _ = false

-- a truth value, or the text `exact`
abbrev pub refining_in : Data → Result Refining QFault
refining_in (string t) = do
  _ ← unless (same_text t (codes "exact")) bad_parameter
  Ok exactly
refining_in d = do
  refine ← truth_in d
  Ok (if refine then by_offers else not_refined)

-- a terms facet; its sort, which is read last, stands as where nothing is said
abbrev pub terms_parts : Schema → Members → Result Terms QFault
terms_parts s ms = do
  field ← required (codes "field") (field_in s) ms
  offset ← optional (codes "offset") (up_to_a_million (pos 0)) (pos 0) ms
  limit ← optional (codes "limit") (up_to_a_million (negsuc 0)) (pos 10) ms
  mincount ← optional (codes "mincount") (up_to_a_million (pos 1)) (pos 1) ms
  missing ← optional (codes "missing") truth_in false ms
  prefix ← optional (codes "prefix") (prefix_in s field) None ms
  refine ← optional (codes "refine") refining_in not_refined ms
  overrequest ← optional (codes "overrequest") (up_to_a_million (negsuc 0)) (negsuc 0) ms
  overrefine ← optional (codes "overrefine") (up_to_a_million (negsuc 0)) (negsuc 0) ms
  _ ← optional (codes "method") text_in [] ms
  Ok (record {
    field = field;
    offset = unsigned_abs offset;
    limit = limit_from limit;
    sort = default_sort;
    mincount = unsigned_abs mincount;
    missing = missing;
    prefix = prefix;
    refine = refines refine;
    exact = is_exactly refine;
    overrequest = over_number (limit_from limit) overrequest;
    overrefine = over_number (limit_from limit) overrefine;
    show = its_buckets;
  })

-- ---- range

-- one of these words, or an array of them
abbrev pub words_in : List Text → Data → Result (List Text) QFault
words_in words d = do
  ts ← texts_in d
  _ ← unless (list_all (λ t. list_any (same_text t) words) ts) bad_parameter
  Ok ts

-- the word, or `all`, is among these
abbrev pub asks_for : Text → List Text → Bool
asks_for word ts = list_any (same_text word) ts || list_any (same_text (codes "all")) ts

-- `none` beside others wins
abbrev pub asks_beside : Text → List Text → Bool
asks_beside word ts = asks_for word ts && not (list_any (same_text (codes "none")) ts)

abbrev pub other_words : List Text
other_words = codes "before" ∷ codes "after" ∷ codes "between" ∷ codes "none" ∷ codes "all" ∷ []

abbrev pub include_words : List Text
include_words = codes "lower" ∷ codes "upper" ∷ codes "edge" ∷ codes "outer" ∷ codes "all" ∷ []

-- the range of these numbers; `lower` where no end is named
abbrev pub range_of : (field : ℕ) (start end gap : ℤ) (hardend : Bool) (other include : List Text) → Range
range_of field start end gap hardend other include = record {
  field = field;
  start = start;
  end = end;
  gap = gap;
  hardend = hardend;
  before = asks_beside (codes "before") other;
  after = asks_beside (codes "after") other;
  between = asks_beside (codes "between") other;
  lower = is_empty include || asks_for (codes "lower") include;
  upper = asks_for (codes "upper") include;
  edge = asks_for (codes "edge") include;
  outer = asks_for (codes "outer") include;
}

abbrev pub range_parts : Schema → Members → Result Range QFault
range_parts s ms = do
  field ← required (codes "field") (field_in s) ms
  _ ← unless (has_type s (λ k. not (holds_texts k)) field) wrong_field_type
  start ← required (codes "start") integer_in ms
  end ← required (codes "end") integer_in ms
  _ ← unless (not (int_lt end start)) bad_parameter
  gap ← required (codes "gap") integer_in ms
  _ ← unless (int_lt (pos 0) gap) bad_parameter
  hardend ← optional (codes "hardend") truth_in false ms
  _ ← unless (is_long (last_end (range_of field start end gap hardend [] []))) bad_parameter
  _ ← unless (nat_le (gap_count (range_of field start end gap hardend [] [])) 10_000) too_large
  other ← optional (codes "other") (words_in other_words) [] ms
  include ← optional (codes "include") (words_in include_words) [] ms
  Ok (range_of field start end gap hardend other include)

-- ---- query

abbrev pub query_part : Schema → Members → Result Kind QFault
query_part s ms = do
  q ← required (codes "q") (text_query s) ms
  Ok (query q)
