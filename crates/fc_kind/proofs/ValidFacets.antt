-- What is valid for a schema fits the columns of its fields: facets and their statistics.
use Rattle.std.proofs.Common.{◌≡◌, ◌<◌, ℕ, zero, suc, List, [], ◌∷◌, length, get_or, Bool, true, false, not, IsTrue, Option, None, Some, unwrap_or, option_map, refl, arith}
use Rattle.std.proofs.lemmas.Bool.{false≢true}
use Rattle.std.specs.Prelude.{slice_get, IfSome}
use Rattle.std.proofs.lemmas.List.{length-map}
use Rattle.fc_spec.specs.documents.Schema.{FieldType, string, strings, plong, plongs, pdate, pdates, holds_texts, holds_dates, texts_held, Field, Schema}
use Rattle.fc_spec.specs.documents.Val.{Text}
use Rattle.fc_spec.specs.requests.Request.{Kind, terms, range, query, date_range, Nodes, no_nodes, statistic, facet, stats_of}
use Rattle.fc_spec.specs.requests.StatisticReading.{has_type}
use Rattle.fc_spec.specs.requests.ValidRequests.{AreValidNodes, IsValidKind}
use Rattle.fc_domain.specs.FieldsFit.{HasField}
use Rattle.fc_domain.proofs.SchemaFits.{fields_fit}
use Rattle.fc_kind.specs.Columns.{FitsColumns, HaveFields, IsPrefixOf}

is_field : (fields : List Field) (field : ℕ) → field < length fields → HasField (texts_held fields) field
is_field fields field below = omega (arith, length-map fields (λ f. holds_texts f.kind))

false_from : (b : Bool) → IsTrue (not b) → b ≡ false
false_from true h = absurd (false≢true h)
false_from false h = refl

texts_there : (fields : List Field) (field : ℕ) → IsTrue (unwrap_or (option_map (λ f. holds_texts f.kind) (slice_get fields field)) false) → get_or (texts_held fields) field false ≡ true
texts_there [] field h = absurd (false≢true h)
texts_there (f ∷ fields) zero h = h
texts_there (f ∷ fields) (suc field) h = texts_there fields field h

integers_there : (fields : List Field) (field : ℕ) → IsTrue (unwrap_or (option_map (λ f. not (holds_texts f.kind)) (slice_get fields field)) false) → get_or (texts_held fields) field false ≡ false
integers_there [] field h = absurd (false≢true h)
integers_there (f ∷ fields) zero h = false_from (holds_texts f.kind) h
integers_there (f ∷ fields) (suc field) h = integers_there fields field h

-- dates are texts
dates_are_texts : (kind : FieldType) → IsTrue (holds_dates kind) → holds_texts kind ≡ true
dates_are_texts string h = refl
dates_are_texts strings h = refl
dates_are_texts plong h = absurd (false≢true h)
dates_are_texts plongs h = absurd (false≢true h)
dates_are_texts pdate h = refl
dates_are_texts pdates h = refl

dates_there : (fields : List Field) (field : ℕ) → IsTrue (unwrap_or (option_map (λ f. holds_dates f.kind) (slice_get fields field)) false) → get_or (texts_held fields) field false ≡ true
dates_there [] field h = absurd (false≢true h)
dates_there (f ∷ fields) zero h = dates_are_texts f.kind h
dates_there (f ∷ fields) (suc field) h = dates_there fields field h

prefix_fits : (s : Schema) (field : ℕ) (prefix : Option Text) → IfSome prefix (λ p. IsTrue (has_type s holds_texts field)) → IsPrefixOf (texts_held s.fields) field prefix
prefix_fits s field None valid = tt
prefix_fits s field (Some p) valid = texts_there s.fields field valid

pub kind_fits : (s : Schema) (inner : Nodes) (k : Kind) → IsValidKind s inner k → FitsColumns (texts_held s.fields) k
kind_fits s inner (terms t) valid = (is_field s.fields t.field valid.field, prefix_fits s t.field t.prefix valid.prefix)
kind_fits s inner (range g) valid =
    (is_field s.fields g.field valid.field, integers_there s.fields g.field valid.of_integers, record { ordered = valid.ordered; forward = valid.forward; few = valid.few })
kind_fits s inner (query q) valid = fields_fit s q valid.fits
kind_fits s inner (date_range g) valid =
    (is_field s.fields g.field valid.field, dates_there s.fields g.field valid.of_dates, record { some = valid.some; few = valid.few; ascending = valid.ascending })

pub statistics_fit : (s : Schema) (unmoved : Bool) (nodes : Nodes) → AreValidNodes s unmoved nodes → HaveFields (texts_held s.fields) (stats_of nodes)
statistics_fit s unmoved no_nodes valid = tt
statistics_fit s unmoved (statistic name st rest) valid = (is_field s.fields st.field valid.0.field, statistics_fit s unmoved rest valid.1)
statistics_fit s unmoved (facet f inner rest) valid = statistics_fit s unmoved rest valid.2
