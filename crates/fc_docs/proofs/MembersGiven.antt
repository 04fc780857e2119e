-- The values that the members read so far gave to their fields.
use Rattle.std.proofs.Common.{◌≡◌, ℕ, ◌<◌, List, [], ◌∷◌, ◌++◌, All, length, get_or, Some, None, option_map, Ok, slice_get, String, Global, string_bytes, arith, sym, subst}
use Rattle.std.specs.List.Sorted.{IsStrictlySortedBy}
use Rattle.std.proofs.lemmas.List.Elements.{All-append, All-map, All-nil}
use Rattle.std.proofs.lemmas.Option.{slice_get-get_or}
use Rattle.serde_json.specs.Data.{Data, Members, no_members, member}
use Rattle.serde_json.specs.View.{view, members_view}
use Rattle.serde_json.specs.declared.value.Value.{Value}
use Rattle.fc_spec.specs.documents.Val.{Text, text_cmp, Val}
use Rattle.fc_spec.specs.documents.Schema.{FieldType, Schema}
use Rattle.fc_spec.specs.documents.BlockReading.{Role, values_for}
use Rattle.fc_spec.specs.documents.ValidBlocks.{AreValuesOf}
use Rattle.fc_base.specs.ValidSchema.{id_field, IsFieldList}
use Rattle.fc_base.proofs.Members.{member_keys}
use Rattle.fc_docs.specs.Direct.{Given, document_given, giving}
use Rattle.fc_docs.specs.Members.{field_given}
use Rattle.fc_docs.proofs.Gathered.{document_given-gathered, gathered, gathered-more, gathered-nothing}
use Rattle.fc_docs.proofs.ReadSoFar as read
use Rattle.fc_docs.proofs.ReadSoFar.{ReadSoFar}

pub record ReadGiven (role : Role) (s : Schema) (all : Members) (fields : ℕ) (ps : Given) (rest : Members) : Type 0 where
  pub read : ReadSoFar role s all (gathered fields ps) rest
  pub count : fields ≡ length s.fields
  pub below : All (λ (p : ℕ × Val). p.0 < fields) ps

pub nothing_given : (role : Role) (s : Schema) (all : Members) (fields : ℕ) → fields ≡ length s.fields → IsStrictlySortedBy text_cmp (member_keys all) → ReadGiven role s all fields [] all
nothing_given role s all fields count ascend = record {
  read = subst (λ d. ReadSoFar role s all d all) (sym (gathered-nothing fields)) (read.nothing_read role s all fields count ascend);
  count = count;
  below = All-nil (λ (p : ℕ × Val). p.0 < fields);
}

pub one_more : (role : Role) (s : Schema) (all : Members) (fields : ℕ) (ps : Given) (key : Text) (v : Data) (rest : Members) (j : ℕ) (kind : FieldType) (vs : List Val) → ReadGiven role s all fields ps (member key v rest) → IsFieldList s.fields → field_given role s key v ≡ Ok (Some j) → option_map (λ f. f.kind) (slice_get s.fields j) ≡ Some kind → values_for kind v ≡ Ok vs → AreValuesOf kind vs → ReadGiven role s all fields (ps ++ giving j vs) rest
one_more role s all fields ps key v rest j kind vs h list given typed good are =
    let yet = read.no_values_yet role s all (gathered fields ps) key v rest j kind h.read given typed in
    let within : j < fields = omega (arith, yet.0, h.count) in
    record {
      read = subst (λ d. ReadSoFar role s all d rest) (sym (gathered-more fields j ps vs within yet.1)) (read.one_more role s all (gathered fields ps) key v rest j kind vs h.read list given typed good are);
      count = h.count;
      below = All-append (λ (p : ℕ × Val). p.0 < fields) ps (giving j vs) h.below (All-map (λ (p : ℕ × Val). p.0 < fields) (λ v. (j, v)) vs (λ k d within_vs. within));
    }

pub one_silent : (role : Role) (s : Schema) (all : Members) (fields : ℕ) (ps : Given) (key : Text) (v : Data) (rest : Members) → ReadGiven role s all fields ps (member key v rest) → IsFieldList s.fields → field_given role s key v ≡ Ok None → ReadGiven role s all fields ps rest
one_silent role s all fields ps key v rest h list given =
    record { read = read.one_silent role s all (gathered fields ps) key v rest h.read list given; count = h.count; below = h.below }

-- ---- at a turn of a loop over the members
pub one_left : (role : Role) (s : Schema) (all : Members) (fields : ℕ) (ps : Given) (es fs : List (String Global × Value)) (e : String Global × Value) → ReadGiven role s all fields ps (members_view es) → es ≡ e ∷ fs → ReadGiven role s all fields ps (member (string_bytes e.0) (view e.1) (members_view fs))
one_left role s all fields ps es fs e h is = subst (λ (gs : List (String Global × Value)). ReadGiven role s all fields ps (members_view gs)) is h

-- the document of all values that were given
pub none_left : (role : Role) (s : Schema) (all : Members) (fields : ℕ) (ps : Given) (es : List (String Global × Value)) → ReadGiven role s all fields ps (members_view es) → es ≡ [] → ReadSoFar role s all (document_given fields ps) no_members
none_left role s all fields ps es h is =
    let whole : ReadSoFar role s all (gathered fields ps) no_members = subst (λ (fs : List (String Global × Value)). ReadSoFar role s all (gathered fields ps) (members_view fs)) is h.read in
    let ascend = λ (k : ℕ) (within : k < fields). (whole.valid k (get_or s.fields k id_field) (slice_get-get_or s.fields k id_field (omega (arith, h.count)))).ascending in
    subst (λ d. ReadSoFar role s all d no_members) (sym (document_given-gathered fields ps ascend)) whole
