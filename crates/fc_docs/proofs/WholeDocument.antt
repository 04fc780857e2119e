-- A document whose members were all read, and one of which a member has a fault.
use Rattle.std.proofs.Common.{◌≡◌, ℕ, ◌<◌, [], length, get_or, map, true, false, not, nat_eq, nat_le, Some, option_map, Ok, Err, slice_get, Result, arith, sym, ◌∙◌, ap, refl}
use Rattle.std.proofs.lemmas.Bool.Decides.{nat_tests}
use Rattle.std.proofs.lemmas.List.{ext_get_or, length-map, get_or-map}
use Rattle.std.proofs.lemmas.Option.{slice_get-get_or}
use Rattle.serde_json.specs.Data.{Data, Members, no_members, member}
use Rattle.fc_spec.specs.documents.Val.{Text}
use Rattle.fc_spec.specs.documents.Document.{Document, values_of}
use Rattle.fc_spec.specs.documents.DocFault.{DocFault, no_id}
use Rattle.fc_spec.specs.documents.Schema.{Field, FieldType, Schema}
use Rattle.fc_spec.specs.words.Walks.{◌>>=◌, unless}
use Rattle.fc_spec.specs.documents.BlockReading.{Role, check_members, document_of_members, field_values, member_values, values_for}
use Rattle.fc_spec.specs.documents.ValidBlocks.{IsDocumentOf}
use Rattle.fc_base.specs.ValidSchema.{id_field, IsFieldList}
use Rattle.fc_docs.specs.Members.{field_given}
use Rattle.fc_docs.proofs.MemberFields.{bad_key, gives_values}
use Rattle.fc_docs.proofs.ReadSoFar.{ReadSoFar}

-- ---- a fault of a member
fault_of_member : (role : Role) (s : Schema) (all : Members) (d : Document) (key : Text) (v : Data) (rest : Members) (e : DocFault) → ReadSoFar role s all d (member key v rest) → member_values role s key v ≡ Err e → document_of_members role s all ≡ Err e
fault_of_member role s all d key v rest e so_far bad =
    let faults : check_members role s all ≡ Err e = so_far.faults ∙ rw bad refl in
    rw faults refl

pub bad_member : (role : Role) (s : Schema) (all : Members) (d : Document) (key : Text) (v : Data) (rest : Members) (e : DocFault) → ReadSoFar role s all d (member key v rest) → field_given role s key v ≡ Err e → document_of_members role s all ≡ Err e
bad_member role s all d key v rest e so_far bad = fault_of_member role s all d key v rest e so_far (bad_key role s key v e bad)

pub bad_values : (role : Role) (s : Schema) (all : Members) (d : Document) (key : Text) (v : Data) (rest : Members) (j : ℕ) (kind : FieldType) (e : DocFault) → ReadSoFar role s all d (member key v rest) → field_given role s key v ≡ Ok (Some j) → option_map (λ f. f.kind) (slice_get s.fields j) ≡ Some kind → values_for kind v ≡ Err e → document_of_members role s all ≡ Err e
bad_values role s all d key v rest j kind e so_far given typed bad = fault_of_member role s all d key v rest e so_far ((gives_values role s key v j kind given typed).1 ∙ bad)

-- ---- all members were read
at_field : (role : Role) (s : Schema) (all : Members) (d : Document) (k : ℕ) (f : Field) → ReadSoFar role s all d no_members → slice_get s.fields k ≡ Some f → values_of d k ≡ field_values all f
at_field role s all d k f so_far at = so_far.parts k f at

whole : (role : Role) (s : Schema) (all : Members) (d : Document) → ReadSoFar role s all d no_members → d ≡ map (field_values all) s.fields
whole role s all d so_far =
    ext_get_or [] d (map (field_values all) s.fields) (so_far.lists ∙ sym (length-map s.fields (field_values all)))
    (λ k below. let within : k < length s.fields = rw (← so_far.lists) below in
    at_field role s all d k (get_or s.fields k id_field) so_far (slice_get-get_or s.fields k id_field within) ∙ sym (get_or-map (field_values all) s.fields k id_field [] within))

abbrev checked : Document → Result Document DocFault
checked d = unless (not (nat_eq (length (values_of d 0)) 0)) no_id >>= λ _. Ok d

all_read : (role : Role) (s : Schema) (all : Members) (d : Document) → ReadSoFar role s all d no_members → document_of_members role s all ≡ checked d
all_read role s all d so_far = rw so_far.faults (ap checked (sym (whole role s all d so_far)))

pub without_id : (role : Role) (s : Schema) (all : Members) (d : Document) → ReadSoFar role s all d no_members → length (values_of d 0) ≡ 0 → document_of_members role s all ≡ Err no_id
without_id role s all d so_far empty = all_read role s all d so_far ∙ rw empty refl

pub with_id : (role : Role) (s : Schema) (all : Members) (d : Document) → ReadSoFar role s all d no_members → 0 < length (values_of d 0) → document_of_members role s all ≡ Ok d
with_id role s all d so_far some =
    let none : nat_eq (length (values_of d 0)) 0 ≡ false = grind (arith, nat_tests) in
    all_read role s all d so_far ∙ rw none refl

pub is_document : (role : Role) (s : Schema) (all : Members) (d : Document) → ReadSoFar role s all d no_members → IsFieldList s.fields → 0 < length (values_of d 0) → IsDocumentOf s d
is_document role s all d so_far list some =
    let ids = so_far.valid 0 id_field list.id_first in
    let at_most_one : nat_le (length (values_of d 0)) 1 ≡ true = ids.few in
    let one : length (values_of d 0) ≡ 1 = grind (arith, nat_tests) in
    record { lists = so_far.lists; values = so_far.valid; id = one }
