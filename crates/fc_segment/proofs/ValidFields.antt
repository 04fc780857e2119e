-- Valid documents have values of the kind of each field.
use Rattle.std.proofs.Common.{◌≡◌, ℕ, zero, suc, ◌<◌, ◌≤◌, ◌⊎◌, inl, inr, List, [], ◌∷◌, length, get_or, All, Some, slice_get, false, refl, sym, ◌∙◌, subst, arith}
use Rattle.std.proofs.lemmas.Bool.{cases_lt}
use Rattle.std.proofs.lemmas.List.{get_or_past, length-map}
use Rattle.std.proofs.lemmas.List.Elements.{All-weaker}
use Rattle.fc_spec.specs.documents.Document.{Document, Block, values_of}
use Rattle.fc_spec.specs.documents.Totals.{documents_in}
use Rattle.fc_spec.specs.documents.Schema.{holds_texts, texts_held, Field, Schema}
use Rattle.fc_spec.specs.documents.ValidBlocks.{IsDocumentOf, IsBlockOf}
use Rattle.fc_spec.proofs.documents.BlockTotals.{valid_documents}
use Rattle.fc_segment.specs.Building.{IsRow, FitsTexts}
use Rattle.fc_segment.proofs.Rows.{row_of_values}

-- the field of a number
field_at : (fields : List Field) (n : ℕ) → n < length fields → (f : Field) × (slice_get fields n ≡ Some f) × (get_or (texts_held fields) n false ≡ holds_texts f.kind)
field_at [] n within = absurd (omega arith)
field_at (f ∷ fields) zero within = (f, refl, refl)
field_at (f ∷ fields) (suc n) within = field_at fields n (omega arith)

fits_of_valid : (s : Schema) (d : Document) → IsDocumentOf s d → FitsTexts (texts_held s.fields) d
fits_of_valid s d valid = record {
  lists = valid.lists ∙ sym (length-map s.fields (λ (f : Field). holds_texts f.kind));
  rows = λ n. row n (cases_lt n (length s.fields));
}
  where
    row : (n : ℕ) → ((n < length s.fields) ⊎ (length s.fields ≤ n)) → IsRow (get_or (texts_held s.fields) n false) (values_of d n)
    row n (inl within) =
        let field = field_at s.fields n within in
        subst (λ texts. IsRow texts (values_of d n)) (sym field.2) (row_of_values field.0.kind (values_of d n) (valid.values n field.0 field.1))
    row n (inr past) =
        let size = valid.lists in
        subst (IsRow (get_or (texts_held s.fields) n false)) (sym (get_or_past d n [] (omega arith)))
        (record { of_kind = λ k v none. absurd (omega arith); ascending = λ i j v before none. absurd (omega arith) })

pub blocks_fit : (s : Schema) (blocks : List Block) → All (IsBlockOf s) blocks → All (FitsTexts (texts_held s.fields)) (documents_in blocks)
blocks_fit s blocks valid = All-weaker (IsDocumentOf s) (FitsTexts (texts_held s.fields)) (fits_of_valid s) (documents_in blocks) (valid_documents s blocks valid)
