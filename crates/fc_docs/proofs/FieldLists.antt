-- The lists of a document are the values of its fields.
use Rattle.std.proofs.Common.{◌≡◌, ℕ, [], length, arith, sym, ◌∙◌, inl, inr}
use Rattle.std.proofs.lemmas.Bool.{cases_lt}
use Rattle.std.proofs.lemmas.List.{get_or_past}
use Rattle.std.proofs.lemmas.List.FromFn.{length-map-range_with_len, get_or-map-range_with_len}
use Rattle.fc_spec.specs.documents.Document.{values_of}
use Rattle.fc_docs.specs.Fields.{FieldValues, values_at, EndBelow, document_of}

pub length-document_of : (count : ℕ) (es : FieldValues) → length (document_of count es) ≡ count
length-document_of count es = length-map-range_with_len (values_at es) 0 count

pub values_of-document_of : (count : ℕ) (es : FieldValues) (n : ℕ) → EndBelow count es → values_of (document_of count es) n ≡ values_at es n
values_of-document_of count es n ends =
    elim (cases_lt n count) [
      | inl below ↦ get_or-map-range_with_len (values_at es) 0 count n n [] below (omega arith)
      | inr past ↦ get_or_past (document_of count es) n [] (rw (length-document_of count es) past) ∙ sym (ends n past)
    ]
