-- What fits a schema fits the columns of its fields: queries, and with them requests and domain changes.
use Rattle.std.proofs.Common.{ℕ, zero, suc, ◌<◌, List, [], ◌∷◌, length, get_or, Bool, IsTrue, arith}
use Rattle.std.specs.Prelude.{IsSomeAnd, slice_get}
use Rattle.std.proofs.lemmas.List.{length-map}
use Rattle.fc_spec.specs.documents.Schema.{holds_texts, texts_held, Field, Schema}
use Rattle.fc_spec.specs.documents.Val.{Val}
use Rattle.fc_spec.specs.queries.Query.{Bound, unbounded, including, excluding, Query, all, has, is, between, group, Clauses, no_clauses, clause}
use Rattle.fc_spec.specs.documents.ValidBlocks.{is_of_type}
use Rattle.fc_spec.specs.queries.ValidQueries.{BoundFits, FitsSchema, AllFitSchema, IsFieldBound}
use Rattle.fc_spec.proofs.documents.ValueKinds.{kind_of_type}
use Rattle.fc_spec.specs.requests.Request.{Request, BlockStep, stay, parents, children, DomainChange}
use Rattle.fc_spec.specs.requests.ValidRequests.{IsValidRequest, IsValidChange, IsValidStep}
use Rattle.fc_domain.specs.FieldsFit.{HasField, HasValue, FitsFields, AllFitFields, StepFits, ChangeFits, BaseFits}

value_fits : (fields : List Field) (field : ℕ) (v : Val) → IsSomeAnd (slice_get fields field) (λ f. IsTrue (is_of_type f.kind v))
    → HasValue (texts_held fields) field v
value_fits [] field v fits = absurd fits
value_fits (f ∷ fields) zero v fits = (omega arith, kind_of_type f.kind v fits)
value_fits (f ∷ fields) (suc field) v fits =
    let rest = value_fits fields field v fits in
    (let h = rest.0 in omega arith, rest.1)

below_held : (fields : List Field) (field : ℕ) → field < length fields → field < length (texts_held fields)
below_held fields field below = omega (arith, length-map fields (λ f. holds_texts f.kind))

bound_fits : (s : Schema) (field : ℕ) (b : Bound) → IsFieldBound s field b → BoundFits (HasField (texts_held s.fields)) (HasValue (texts_held s.fields)) field b
bound_fits s field unbounded fits = below_held s.fields field fits
bound_fits s field (including v) fits = value_fits s.fields field v fits
bound_fits s field (excluding v) fits = value_fits s.fields field v fits

mutual
  pub fields_fit : (s : Schema) (q : Query) → FitsSchema s q → FitsFields (texts_held s.fields) q
  fields_fit s all fits = tt
  fields_fit s (has field) fits = below_held s.fields field fits
  fields_fit s (is field v) fits = value_fits s.fields field v fits
  fields_fit s (between field low high) fits = (bound_fits s field low fits.0, bound_fits s field high fits.1)
  fields_fit s (group cs) fits = all_fields_fit s cs fits

  all_fields_fit : (s : Schema) (cs : Clauses) → AllFitSchema s cs → AllFitFields (texts_held s.fields) cs
  all_fields_fit s no_clauses fits = tt
  all_fields_fit s (clause need q cs) fits = (fields_fit s q fits.0, all_fields_fit s cs fits.1)

-- ---- requests and domain changes

pub base_fits : (s : Schema) (r : Request) → IsValidRequest s r → BaseFits (texts_held s.fields) r
base_fits s r valid = record {
  query = fields_fit s r.query valid.query.fits;
  filters = λ k f below. fields_fit s (get_or r.filters k f).query (valid.filters k f below).query.fits;
}

step_fits : (s : Schema) (b : BlockStep) → IsValidStep s b → StepFits (texts_held s.fields) b
step_fits s stay valid = tt
step_fits s (parents q) valid = fields_fit s q valid.fits
step_fits s (children q) valid = fields_fit s q valid.fits

pub change_fits : (s : Schema) (unmoved : Bool) (c : DomainChange) → IsValidChange s unmoved c → ChangeFits (texts_held s.fields) c
change_fits s unmoved c valid = record {
  step = step_fits s c.block valid.step;
  filters = λ k q below. fields_fit s (get_or c.filters k q) (valid.filters k q below).fits;
}
