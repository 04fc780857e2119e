-- Queries that fit columns.
use Rattle.std.specs.Prelude.{◌≡◌, ℕ, ◌<◌, List, length, slice_index_or, All, Bool, false}
use Rattle.fc_spec.specs.documents.Columns.{is_text}
use Rattle.fc_spec.specs.queries.Query.{Bound, unbounded, including, excluding, Query, Clauses}
use Rattle.fc_spec.specs.documents.Val.{Val}
use Rattle.fc_spec.specs.queries.ValidQueries.{QueryFits, ClausesFit}
use Rattle.fc_spec.specs.requests.Request.{BlockStep, stay, parents, children, DomainChange, Request}

-- the value is a text exactly where texts are held
abbrev pub IsBoundOf : Bool → Bound → Type 0
IsBoundOf texts unbounded = Unit {0}
IsBoundOf texts (including v) = is_text v ≡ texts
IsBoundOf texts (excluding v) = is_text v ≡ texts

-- for each field whether it holds texts: the field is there
abbrev pub HasField : List Bool → ℕ → Type 0
HasField texts field = field < length texts

-- and the value is a text exactly where the field holds texts
abbrev pub HasValue : List Bool → ℕ → Val → Type 0
HasValue texts field v = HasField texts field × (is_text v ≡ slice_index_or texts field false)

-- the query's fields are there, and each value and bound is a text exactly where its field holds texts
abbrev pub FitsFields : List Bool → Query → Type 0
FitsFields texts = QueryFits (HasField texts) (HasValue texts)

abbrev pub AllFitFields : List Bool → Clauses → Type 0
AllFitFields texts = ClausesFit (HasField texts) (HasValue texts)

-- the query of a block step does
abbrev pub StepFits : List Bool → BlockStep → Type 0
StepFits texts stay = Unit {0}
StepFits texts (parents q) = FitsFields texts q
StepFits texts (children q) = FitsFields texts q

-- each query of a domain change does
pub record ChangeFits (texts : List Bool) (change : DomainChange) : Type 0 where
  pub step : StepFits texts change.block
  pub filters : All (FitsFields texts) change.filters

-- the query and each filter of a request do
pub record BaseFits (texts : List Bool) (r : Request) : Type 0 where
  pub query : FitsFields texts r.query
  pub filters : All (λ f. FitsFields texts f.query) r.filters
