-- A range facet over dates: by months, on the days that the months have.
use Rattle.std.specs.Prelude.{◌≡◌, List, [], ◌∷◌, map, false, true, refl, codes, Ok, Err, Some, Result, option_map}
use Prim.Native.String.{String}
use Rattle.std.specs.Option.{option_and_then}
use Rattle.fc_spec.specs.documents.Val.{Text}
use Rattle.fc_spec.specs.documents.World.{World}
use Rattle.fc_spec.specs.dates.GapTexts.{Gap, months, days, seconds}
use Rattle.fc_spec.specs.requests.Request.{DateRange, date_range, no_nodes, facet, Request}
use Rattle.fc_spec.specs.requests.RequestFault.{bad_parameter, too_large}
use Rattle.fc_spec.specs.requests.DateRangeReading.{edges_of}
use Rattle.fc_spec.specs.scripts.Lines.{error_line}
use Rattle.fc_rows.proofs.Words.{written, BothSay, said, alone, named, asking}

-- fields: id, d
abbrev pub documents : World
documents =
    (alone (said "1" ∷ said "2024-02-10T00:00:00.000Z" ∷ []) ∷ alone (said "2" ∷ said "2024-02-29T00:00:00.500Z" ∷ [])
    ∷ alone (said "3" ∷ said "2024-04-30T23:59:59.000Z" ∷ []) ∷ alone (said "4" ∷ said "2024-05-10T00:00:00.000Z" ∷ []) ∷ [])
    ∷ []

-- a range facet of these edges that says nothing more: each bucket holds its low end
abbrev pub edges_on : List String → DateRange
edges_on edges = record {
  field = 1;
  edges = map codes edges;
  before = false;
  after = false;
  between = false;
  lower = true;
  upper = false;
  edge = false;
  outer = false;
}

abbrev pub asking_dates : DateRange → Request
asking_dates g = asking (facet (named "r" (date_range g)) no_nodes no_nodes)

abbrev pub by_month : DateRange
by_month = edges_on ("2024-01-31T00:00:00.000Z" ∷ "2024-02-29T00:00:00.000Z" ∷ "2024-03-29T00:00:00.000Z" ∷ "2024-04-29T00:00:00.000Z" ∷ "2024-05-29T00:00:00.000Z" ∷ [])

abbrev pub to_may : DateRange
to_may = edges_on ("2024-01-31T00:00:00.000Z" ∷ "2024-02-29T00:00:00.000Z" ∷ "2024-03-29T00:00:00.000Z" ∷ "2024-04-29T00:00:00.000Z" ∷ "2024-05-01T00:00:00.000Z" ∷ [])

pub monthly : BothSay (asking_dates by_month) documents
    (codes "{\"count\":4,\"r\":{\"buckets\":[{\"count\":1,\"val\":\"2024-01-31T00:00:00.000Z\"},{\"count\":1,\"val\":\"2024-02-29T00:00:00.000Z\"},{\"count\":0,\"val\":\"2024-03-29T00:00:00.000Z\"},{\"count\":2,\"val\":\"2024-04-29T00:00:00.000Z\"}]}}")
unfolding written
monthly = (refl, refl)

-- the last bucket ends at the range's end
pub hard_end : BothSay (asking_dates to_may) documents
    (codes "{\"count\":4,\"r\":{\"buckets\":[{\"count\":1,\"val\":\"2024-01-31T00:00:00.000Z\"},{\"count\":1,\"val\":\"2024-02-29T00:00:00.000Z\"},{\"count\":0,\"val\":\"2024-03-29T00:00:00.000Z\"},{\"count\":1,\"val\":\"2024-04-29T00:00:00.000Z\"}]}}")
unfolding written
hard_end = (refl, refl)

-- with what stands beside the gaps: the first edge and the last end are held as those of integers are
pub beside : BothSay (asking_dates (record to_may { before = true; after = true; between = true })) documents
    (codes "{\"count\":4,\"r\":{\"after\":{\"count\":1},\"before\":{\"count\":0},\"between\":{\"count\":3},\"buckets\":[{\"count\":1,\"val\":\"2024-01-31T00:00:00.000Z\"},{\"count\":1,\"val\":\"2024-02-29T00:00:00.000Z\"},{\"count\":0,\"val\":\"2024-03-29T00:00:00.000Z\"},{\"count\":1,\"val\":\"2024-04-29T00:00:00.000Z\"}]}}")
unfolding written
beside = (refl, refl)

-- from a date to itself there is no bucket
pub without_gaps : BothSay (asking_dates (record (edges_on ("2024-03-01T00:00:00.000Z" ∷ [])) { before = true; after = true; between = true })) documents
    (codes "{\"count\":4,\"r\":{\"after\":{\"count\":2},\"before\":{\"count\":2},\"between\":{\"count\":0},\"buckets\":[]}}")
unfolding written
without_gaps = (refl, refl)

pub no_fortnights : error_line (record { at = codes "r" ∷ []; fault = bad_parameter }) (codes "a") ≡ codes "{\"error\":\"bad-parameter\",\"facet\":[\"r\"],\"number\":10,\"session\":\"a\"}\n"
unfolding written
no_fortnights = refl

-- ---- edges

abbrev months_of : Gap
months_of = record { unit = months; number = 1 }

pub stepped : edges_of months_of (codes "2024-01-31T00:00:00.000Z") (codes "2024-05-01T00:00:00.000Z") false ≡ Ok by_month.edges
unfolding edges_of
stepped = refl

pub stepped_to_the_end : edges_of months_of (codes "2024-01-31T00:00:00.000Z") (codes "2024-05-01T00:00:00.000Z") true ≡ Ok to_may.edges
unfolding edges_of
stepped_to_the_end = refl

pub at_one_point : edges_of months_of (codes "2024-01-31T00:00:00.000Z") (codes "2024-01-31T00:00:00.000Z") false ≡ Ok (codes "2024-01-31T00:00:00.000Z" ∷ [])
unfolding edges_of
at_one_point = refl

-- an edge past 9999, which with hardend is not used
pub past_the_last_year : edges_of months_of (codes "9999-12-15T00:00:00.000Z") (codes "9999-12-20T00:00:00.000Z") false ≡ Err bad_parameter
unfolding edges_of
past_the_last_year = refl

pub within_the_last_year : edges_of months_of (codes "9999-12-15T00:00:00.000Z") (codes "9999-12-20T00:00:00.000Z") true ≡ Ok (codes "9999-12-15T00:00:00.000Z" ∷ codes "9999-12-20T00:00:00.000Z" ∷ [])
unfolding edges_of
within_the_last_year = refl
