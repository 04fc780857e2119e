-- The document of members that were all read from tokens.
use Rattle.std.proofs.Common.{◌≡◌, ◌<◌, ℕ, List, [], length, map, get_or, Bool, true, false, not, nat_le, nat_eq, Result, Ok, arith, sym, ◌∙◌, ap, refl, subst}
use Rattle.std.proofs.lemmas.Bool.Decides.{nat_tests}
use Rattle.std.proofs.lemmas.List.{ext_get_or, length-map, get_or-map}
use Rattle.std.proofs.lemmas.List.FromFn.{length-map-range_with_len, get_or-map-range_with_len}
use Rattle.std.proofs.lemmas.Option.{slice_get_within, slice_get-get_or}
use Rattle.serde_json.specs.Data.{Members}
use Rattle.fc_spec.specs.documents.Val.{distinct}
use Rattle.fc_spec.specs.documents.Document.{Document, values_of}
use Rattle.fc_spec.specs.documents.DocFault.{DocFault, no_id}
use Rattle.fc_spec.specs.documents.Schema.{Schema}
use Rattle.fc_spec.specs.words.Walks.{◌>>=◌, unless}
use Rattle.fc_spec.specs.documents.BlockReading.{Role, document_of_members, field_values}
use Rattle.fc_spec.specs.documents.ValidBlocks.{AreValuesOf, IsDocumentOf}
use Rattle.fc_base.specs.ValidSchema.{id_field, IsFieldList}
use Rattle.fc_docs.specs.Direct.{Given, document_given, given_to}
use Rattle.fc_docs.specs.DirectState.{AreRead}

module _ (role : Role) (s : Schema) (all : Members) (given : Given) (seen : List Bool) (read : AreRead role s all given seen) where
  at_field : (k : ℕ) → k < length s.fields → values_of (document_given (length s.fields) given) k ≡ distinct (given_to k given)
  at_field k below = get_or-map-range_with_len (λ n. distinct (given_to n given)) 0 (length s.fields) k k [] below (omega arith)

  lists : length (document_given (length s.fields) given) ≡ length s.fields
  lists = length-map-range_with_len (λ n. distinct (given_to n given)) 0 (length s.fields)

  whole : document_given (length s.fields) given ≡ map (field_values all) s.fields
  whole =
      ext_get_or [] (document_given (length s.fields) given) (map (field_values all) s.fields) (lists ∙ sym (length-map s.fields (field_values all)))
      (λ k within. let below : k < length s.fields = rw (← lists) within in
      at_field k below ∙ read.values k (get_or s.fields k id_field) (slice_get-get_or s.fields k id_field below) ∙ sym (get_or-map (field_values all) s.fields k id_field [] below))

  abbrev checked : Document → Result Document DocFault
  checked d = unless (not (nat_eq (length (values_of d 0)) 0)) no_id >>= λ _. Ok d

  pub is_read : 0 < length (values_of (document_given (length s.fields) given) 0) → document_of_members role s all ≡ Ok (document_given (length s.fields) given)
  is_read some =
      let none : nat_eq (length (values_of (document_given (length s.fields) given) 0)) 0 ≡ false = grind (arith, nat_tests) in
      rw read.checked (ap checked (sym whole) ∙ rw none refl)

  pub is_document : IsFieldList s.fields → 0 < length (values_of (document_given (length s.fields) given) 0) → IsDocumentOf s (document_given (length s.fields) given)
  is_document list some =
      let first : values_of (document_given (length s.fields) given) 0 ≡ distinct (given_to 0 given) = at_field 0 (slice_get_within s.fields 0 id_field list.id_first) in
      let ids : AreValuesOf id_field.kind (values_of (document_given (length s.fields) given) 0) = subst (AreValuesOf id_field.kind) (sym first) (read.valid 0 id_field list.id_first) in
      let at_most_one : nat_le (length (values_of (document_given (length s.fields) given) 0)) 1 ≡ true = ids.few in
      let one : length (values_of (document_given (length s.fields) given) 0) ≡ 1 = grind (arith, nat_tests) in
      record { lists = lists; values = λ k f at. subst (AreValuesOf f.kind) (sym (at_field k (slice_get_within s.fields k f at))) (read.valid k f at); id = one }
