-- The rows of a column.
use Rattle.std.proofs.Common.{◌≡◌, ℕ, zero, suc, replicate, ◌<◌, List, [], ◌∷◌, ◌++◌, length, get_or, map, All, IsTrue, Option, Some, None, option_map, ℤ, slice_get, false, refl, sym, ap, ◌∙◌, subst, arith}
use Rattle.std.proofs.lemmas.List.{map-append, get_or-map, get_or_append_left, get_or_push, length_push}
use Rattle.std.proofs.lemmas.Option.{slice_get-get_or}
use Rattle.std.proofs.lemmas.List.Elements.{All-weaker}
use Rattle.fc_spec.specs.documents.Val.{Text, Val, text, long}
use Rattle.fc_spec.specs.documents.Document.{Document, Block}
use Rattle.fc_spec.specs.documents.Totals.{documents_in}
use Rattle.fc_spec.specs.documents.Columns.{is_text, IsText, IsLong, texts_in, longs_in}
use Rattle.fc_spec.specs.documents.Schema.{FieldType, holds_texts, texts_held, Field, Schema}
use Rattle.fc_spec.specs.documents.ValidBlocks.{is_value_of, AreValuesOf, IsDocumentOf, IsBlockOf}
use Rattle.fc_spec.proofs.documents.BlockTotals.{valid_documents}
use Rattle.fc_spec.proofs.documents.ValueKinds.{kind_of_value, texts_whole, longs_whole}
use Rattle.fc_segment.specs.Building.{IsRow}

-- ---- the documents of valid blocks
pub length-valid_documents : (s : Schema) (blocks : List Block) → All (IsBlockOf s) blocks → All (λ d. length d ≡ length s.fields) (documents_in blocks)
length-valid_documents s blocks valid = All-weaker (IsDocumentOf s) (λ d. length d ≡ length s.fields) (λ d is. is.lists) (documents_in blocks) (valid_documents s blocks valid)

-- ---- values of a type are a row of its kind
pub row_of_values : (kind : FieldType) (vs : List Val) → AreValuesOf kind vs → IsRow (holds_texts kind) vs
row_of_values kind vs are = record {
  of_kind = All-weaker (λ v. IsTrue (is_value_of kind v)) (λ v. is_text v ≡ holds_texts kind) (kind_of_value kind) vs are.of_type;
  ascending = are.ascending;
}

-- ---- the kind of a field
field_of_kind : (fields : List Field) (field : ℕ) (kind : FieldType) → option_map (λ f. f.kind) (slice_get fields field) ≡ Some kind → (f : Field) × (slice_get fields field ≡ Some f) × (f.kind ≡ kind)
field_of_kind fields field kind is = go (slice_get fields field) refl
  where
    go : (found : Option Field) → slice_get fields field ≡ found → (f : Field) × (slice_get fields field ≡ Some f) × (f.kind ≡ kind)
    go None at = let none : option_map (λ (f : Field). f.kind) None ≡ Some kind = rw at at is in cc
    go (Some f) at = let some : Some f.kind ≡ Some kind = rw at at is in (f, at, (cc))

pub holds_texts_at : (fields : List Field) (field : ℕ) (kind : FieldType) → field < length fields → option_map (λ f. f.kind) (slice_get fields field) ≡ Some kind
    → get_or (texts_held fields) field false ≡ holds_texts kind
holds_texts_at fields field kind below is =
    let found = field_of_kind fields field kind is in
    let at = slice_get-get_or fields field found.0 below in
    let same : get_or fields field found.0 ≡ found.0 = cc (found.1) in
    get_or-map (λ f. holds_texts f.kind) fields field found.0 false below ∙ ap (λ (f : Field). holds_texts f.kind) same ∙ ap holds_texts found.2

-- ---- one more row
pub texts_pushed : (old new : List (List Text)) (vs : List Val) → All IsText vs → new ≡ old ++ texts_in vs ∷ [] → map (map text) new ≡ map (map text) old ++ vs ∷ []
texts_pushed old new vs all is =
    ap (map (map text)) is ∙ map-append (map text) old (texts_in vs ∷ []) ∙ ap (λ row. map (map text) old ++ row ∷ []) (texts_whole vs all)

pub longs_pushed : (old new : List (List ℤ)) (vs : List Val) → All IsLong vs → new ≡ old ++ longs_in vs ∷ [] → map (map long) new ≡ map (map long) old ++ vs ∷ []
longs_pushed old new vs all is =
    ap (map (map long)) is ∙ map-append (map long) old (longs_in vs ∷ []) ∙ ap (λ row. map (map long) old ++ row ∷ []) (longs_whole vs all)

-- ---- the documents of one block
pub of_child : (P : Document → Type 0) (children : List Document) (parent : Document) (i : ℕ) (child : Document) → All P (children ++ parent ∷ [])
    → i < length children → child ≡ get_or children i child → P child
of_child P children parent i child all within is =
    subst P (get_or_append_left children (parent ∷ []) child i within ∙ sym is) (all i child (omega (arith, length_push children parent)))

pub of_parent : (P : Document → Type 0) (children : List Document) (parent : Document) → All P (children ++ parent ∷ []) → P parent
of_parent P children parent all =
    subst P (get_or_push children parent parent (length children) refl) (all (length children) parent (omega (arith, length_push children parent)))

-- ---- rows without a value
map-empties : {X Y : Type 0} (f : X → Y) (count : ℕ) → map (map f) (replicate count []) ≡ replicate count []
map-empties f zero = refl
map-empties f (suc count) = ap (λ rows. [] ∷ rows) (map-empties f count)

pub rows_skipped : {X Y : Type 0} (f : X → Y) (old new : List (List X)) (count : ℕ) → new ≡ old ++ replicate count []
    → map (map f) new ≡ map (map f) old ++ replicate count []
rows_skipped f old new count is =
    ap (map (map f)) is ∙ map-append (map f) old (replicate count []) ∙ ap (λ rows. map (map f) old ++ rows) (map-empties f count)
