-- Requests over a field of dates: ranges, prefixes, statistics and queries. Texts of JSON stand with ' in place of ".
use Rattle.std.specs.Prelude.{◌≡◌, List, [], ◌∷◌, ◌++◌, map, true, false, Some, Ok, Err, option_map, refl, codes}
use Prim.Native.String.{String}
use Rattle.fc_spec.specs.documents.Schema.{Schema, string, plong, pdate, pdates}
use Rattle.fc_spec.specs.documents.Val.{Text, text}
use Rattle.fc_spec.specs.queries.Query.{is, between, including, excluding, unbounded}
use Rattle.fc_spec.specs.requests.Request.{DateRange, Request, sum, min, max, countvals}
use Rattle.fc_spec.specs.requests.RequestFault.{QFault, bad_parameter, missing_parameter, wrong_field_type, unknown_field, too_large, bad_value}
use Rattle.fc_spec.specs.requests.DateRangeReading.{edges_of}
use Rattle.fc_spec.specs.requests.RequestReading.{request_of}
use Rattle.fc_rows.proofs.requests.RequestWords.{json_in, walked}
use Rattle.fc_rows.proofs.replies.MonthRange.{by_month, to_may, edges_on, asking_dates}

-- `id`, a date `d`, dates `ds`, a text `t` and an integer `n`
abbrev dated : Schema
dated = record {
  shards = 1;
  fields = record { name = codes "id"; kind = string } ∷ record { name = codes "d"; kind = pdate } ∷ record { name = codes "ds"; kind = pdates }
      ∷ record { name = codes "n"; kind = plong } ∷ record { name = codes "t"; kind = string } ∷ [];
}

abbrev Says : String → Request → Type 0
Says t r = option_map (request_of dated) (json_in t) ≡ Some (Ok r)

abbrev Fails : String → List String → QFault → Type 0
Fails t at fault = option_map (request_of dated) (json_in t) ≡ Some (Err (record { at = map codes at; fault = fault }))

pub ranges :
    Says "{'facet':{'r':{'type':'range','field':'d','start':'2024-01-31T00:00:00Z','end':'2024-05-01T00:00:00Z','gap':'+1MONTH'}}}" (asking_dates by_month)
    × Says "{'facet':{'r':{'type':'range','field':'d','start':'2024-01-31T00:00:00Z','end':'2024-05-01T00:00:00.000Z','gap':'+1MONTHS','hardend':true,'other':'after','include':'upper'}}}" (asking_dates (record to_may { after = true; lower = false; upper = true }))
    × Says "{'facet':{'r':{'type':'range','field':'d','start':'2024-01-31T00:00:00Z','end':'2024-01-31T00:00:00Z','gap':'+9999YEARS'}}}" (asking_dates (edges_on ("2024-01-31T00:00:00.000Z" ∷ [])))
unfolding walked edges_of
ranges = (refl, refl, refl)

pub bad_ranges :
    Fails "{'facet':{'r':{'type':'range','field':'d','start':'2024-01-31T00:00:00Z','end':'2024-05-01T00:00:00Z','gap':'+1FORTNIGHT'}}}" ("r" ∷ []) bad_parameter
    × Fails "{'facet':{'r':{'type':'range','field':'d','start':'2024-01-32T00:00:00Z','end':'2024-05-01T00:00:00Z','gap':'+1DAY'}}}" ("r" ∷ []) bad_parameter
    × Fails "{'facet':{'r':{'type':'range','field':'d','start':'2024-01-31T00:00:00Z','end':5,'gap':'+1DAY'}}}" ("r" ∷ []) bad_parameter
    × Fails "{'facet':{'r':{'type':'range','field':'d','start':'2024-01-31T00:00:00Z','end':'2024-01-30T23:59:59.999Z','gap':'+1DAY'}}}" ("r" ∷ []) bad_parameter
    × Fails "{'facet':{'r':{'type':'range','field':'d','start':'2024-01-31T00:00:00Z','end':'2024-05-01T00:00:00Z','gap':86400}}}" ("r" ∷ []) bad_parameter
    × Fails "{'facet':{'r':{'type':'range','field':'d','start':'2024-01-31T00:00:00Z','end':'2024-05-01T00:00:00Z'}}}" ("r" ∷ []) missing_parameter
    × Fails "{'facet':{'r':{'type':'range','field':'t','start':'2024-01-31T00:00:00Z','end':'2024-05-01T00:00:00Z','gap':'+1DAY'}}}" ("r" ∷ []) wrong_field_type
    × Fails "{'facet':{'r':{'type':'range','field':'n','start':'2024-01-31T00:00:00Z','end':'2024-05-01T00:00:00Z','gap':'+1DAY'}}}" ("r" ∷ []) bad_parameter
    × Fails "{'facet':{'r':{'type':'range','field':'x','start':'2024-01-31T00:00:00Z','end':'2024-05-01T00:00:00Z','gap':'+1DAY'}}}" ("r" ∷ []) unknown_field
unfolding walked edges_of
bad_ranges = (refl, refl, refl, refl, refl, refl, refl, refl, refl)

pub statistics :
    Fails "{'facet':{'s':'sum(d)'}}" ("s" ∷ []) wrong_field_type
    × Fails "{'facet':{'s':'min(d)'}}" ("s" ∷ []) wrong_field_type
    × Fails "{'facet':{'s':'max(ds)'}}" ("s" ∷ []) wrong_field_type
unfolding walked
statistics = (refl, refl, refl)

pub queries :
    Fails "{'query':'d:2024'}" [] bad_value
    × Fails "{'query':'d:[* TO \\\"2024-02-30T00:00:00Z\\\"]'}" [] bad_value
unfolding walked
queries = (refl, refl)
