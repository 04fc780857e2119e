-- Queries that are valid for a schema.
use Rattle.std.specs.Prelude.{ℕ, suc, ◌<◌, ◌≤◌, max, length, IsTrue, IsSomeAnd, slice_get}
use Rattle.fc_spec.specs.documents.Val.{Val}
use Rattle.fc_spec.specs.documents.Schema.{Schema}
use Rattle.fc_spec.specs.documents.ValidBlocks.{is_of_type}
use Rattle.fc_spec.specs.queries.Query.{Bound, unbounded, including, excluding, Query, all, has, is, between, group, Clauses, no_clauses, clause}

-- the field is there, and the value is of its type
abbrev pub IsFieldValue : Schema → (field : ℕ) → Val → Type 0
IsFieldValue s field v = IsSomeAnd (slice_get s.fields field) (λ f. IsTrue (is_of_type f.kind v))

-- the bound is a value of the field, or there is none and the field is there
abbrev pub BoundFits : (HasField : ℕ → Type 0) → (HasValue : ℕ → Val → Type 0) → (field : ℕ) → Bound → Type 0
BoundFits HasField HasValue field unbounded = HasField field
BoundFits HasField HasValue field (including v) = HasValue field v
BoundFits HasField HasValue field (excluding v) = HasValue field v

abbrev mutual
  -- its fields are there, and its values and bounds are values of their fields
  pub QueryFits : (HasField : ℕ → Type 0) → (HasValue : ℕ → Val → Type 0) → Query → Type 0
  QueryFits HasField HasValue all = Unit {0}
  QueryFits HasField HasValue (has field) = HasField field
  QueryFits HasField HasValue (is field v) = HasValue field v
  QueryFits HasField HasValue (between field low high) = BoundFits HasField HasValue field low × BoundFits HasField HasValue field high
  QueryFits HasField HasValue (group cs) = ClausesFit HasField HasValue cs

  pub ClausesFit : (HasField : ℕ → Type 0) → (HasValue : ℕ → Val → Type 0) → Clauses → Type 0
  ClausesFit HasField HasValue no_clauses = Unit {0}
  ClausesFit HasField HasValue (clause need q cs) = QueryFits HasField HasValue q × ClausesFit HasField HasValue cs

abbrev pub IsField : Schema → ℕ → Type 0
IsField s field = field < length s.fields

abbrev pub IsFieldBound : Schema → (field : ℕ) → Bound → Type 0
IsFieldBound s = BoundFits (IsField s) (IsFieldValue s)

-- its fields are there, and its values are of their types
abbrev pub FitsSchema : Schema → Query → Type 0
FitsSchema s = QueryFits (IsField s) (IsFieldValue s)

abbrev pub AllFitSchema : Schema → Clauses → Type 0
AllFitSchema s = ClausesFit (IsField s) (IsFieldValue s)

abbrev mutual
  -- how many groups stand within one another
  pub depth : Query → ℕ
  depth all = 0
  depth (has field) = 0
  depth (is field v) = 0
  depth (between field low high) = 0
  depth (group cs) = suc (clauses_depth cs)

  pub clauses_depth : Clauses → ℕ
  clauses_depth no_clauses = 0
  clauses_depth (clause need q cs) = max (depth q) (clauses_depth cs)

-- it fits the schema, and at most 64 groups stand within a group
pub record IsValidQuery (s : Schema) (q : Query) : Type 0 where
  pub fits : FitsSchema s q
  pub shallow : depth q ≤ 65
