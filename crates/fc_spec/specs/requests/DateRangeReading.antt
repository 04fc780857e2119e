-- The parameters of a range facet over dates, and its edges. Guide: JSON Facet API, "Range Facet"; Date Formatting and Date Math.
use Rattle.std.specs.Prelude.{ℕ, zero, suc, List, [], ◌∷◌, codes, Bool, false, not, ◌||◌, Option, None, Some, ok_or, Result, Ok, Err, if◌then◌else◌}
use Rattle.serde_json.specs.Data.{Data, Members}
use Rattle.fc_spec.specs.documents.Val.{Text}
use Rattle.fc_spec.specs.words.Lists.{is_empty}
use Rattle.fc_spec.specs.documents.Schema.{Schema, holds_dates}
use Rattle.fc_spec.specs.dates.DateTexts.{canonical_of}
use Rattle.fc_spec.specs.dates.GapTexts.{Gap, gap_of}
use Rattle.fc_spec.specs.dates.Adding.{added}
use Rattle.fc_spec.specs.requests.Request.{DateRange, Kind, range, date_range}
use Rattle.fc_spec.specs.requests.DateGaps.{is_before}
use Rattle.fc_spec.specs.requests.RequestFault.{QFault, bad_parameter, too_large}
use Rattle.fc_spec.specs.requests.RequestWalk.{required, optional, truth_in, text_in}
use Rattle.fc_spec.specs.requests.StatisticReading.{has_type}
use Rattle.fc_spec.specs.requests.FacetReading.{field_in, words_in, other_words, include_words, asks_for, asks_beside, range_parts}
use Rattle.fc_spec.specs.words.Walks.{◌>>=◌, unless}

-- the canonical text of a date text; a value that is none is a bad parameter
abbrev pub date_in : Data → Result Text QFault
date_in d = do
  t ← text_in d
  ok_or (canonical_of t) bad_parameter

-- the gap of a gap text; a value that is none is a bad parameter
abbrev pub gap_in : Data → Result Gap QFault
gap_in d = do
  t ← text_in d
  ok_or (gap_of t) bad_parameter

-- the edges behind a low end, from what is a gap later: they go on where that is before the end of the range; else one is left, which is the end with hardend. A sum past the last date is a bad parameter without it
abbrev pub edges_behind : (go_on : Text → Result (List Text) QFault) → (end : Text) → (hardend : Bool) → Option Text → Result (List Text) QFault
edges_behind go_on end hardend None = if hardend then Ok (end ∷ []) else Err bad_parameter
edges_behind go_on end hardend (Some next) = if is_before next end then go_on next else Ok ((if hardend then end else next) ∷ [])

-- the edges from a low end on, which is before the end of the range, with so many gaps left; a low end beyond them is too large
abbrev pub edges_from : (left : ℕ) → Gap → (end : Text) → (hardend : Bool) → (low : Text) → Result (List Text) QFault
edges_from zero gap end hardend low = Err too_large
edges_from (suc left) gap end hardend low = do
  rest ← edges_behind (edges_from left gap end hardend) end hardend (added low gap)
  Ok (low ∷ rest)

-- the edges of a range, of at most 10,000 gaps
unfoldable pub edges_of : Gap → (start end : Text) → (hardend : Bool) → Result (List Text) QFault
edges_of gap start end hardend = if is_before start end then edges_from 10_000 gap end hardend start else Ok (start ∷ [])

-- the range of these edges; `lower` where no end is named
abbrev pub date_range_of : (field : ℕ) (edges : List Text) (other include : List Text) → DateRange
date_range_of field edges other include = record {
  field = field;
  edges = edges;
  before = asks_beside (codes "before") other;
  after = asks_beside (codes "after") other;
  between = asks_beside (codes "between") other;
  lower = is_empty include || asks_for (codes "lower") include;
  upper = asks_for (codes "upper") include;
  edge = asks_for (codes "edge") include;
  outer = asks_for (codes "outer") include;
}

-- the edges that the parameters say
abbrev pub edges_in : Members → Result (List Text) QFault
edges_in ms = do
  start ← required (codes "start") date_in ms
  end ← required (codes "end") date_in ms
  _ ← unless (not (is_before end start)) bad_parameter
  gap ← required (codes "gap") gap_in ms
  hardend ← optional (codes "hardend") truth_in false ms
  edges_of gap start end hardend

abbrev pub date_range_parts : (field : ℕ) → Members → Result DateRange QFault
date_range_parts field ms = do
  edges ← edges_in ms
  other ← optional (codes "other") (words_in other_words) [] ms
  include ← optional (codes "include") (words_in include_words) [] ms
  Ok (date_range_of field edges other include)

-- over dates, or over integers
abbrev pub range_kind : Schema → (field : ℕ) → Members → Result Kind QFault
range_kind s field ms =
    if has_type s holds_dates field then (date_range_parts field ms >>= λ g. Ok (date_range g)) else (range_parts s ms >>= λ g. Ok (range g))

abbrev pub range_part : Schema → Members → Result Kind QFault
range_part s ms = do
  field ← required (codes "field") (field_in s) ms
  range_kind s field ms
