-- The members of a document that were read from tokens, with one more.
use Rattle.std.proofs.Common.{◌≡◌, ◌≢◌, ◌<◌, ℕ, List, [], ◌++◌, length, set, replicate, All, IsTrue, Bool, true, false, Some, None, option_map, Ok, slice_get, slice_index_or, sym, ◌∙◌, ap, refl, subst, inl, inr}
use Rattle.std.specs.Result.{result_unwrap_or}
use Rattle.std.proofs.lemmas.Bool.{cases_eq}
use Rattle.std.proofs.lemmas.List.{get_or-set_same, get_or-set_other}
use Rattle.std.proofs.lemmas.List.Elements.{All-nil, All-append, All-map}
use Rattle.serde_json.specs.Data.{Data, Members, no_members, put}
use Rattle.serde_json.specs.Find.{get_member}
use Rattle.serde_json.proofs.Views.{get_member-put, get_member-put_other}
use Rattle.fc_spec.specs.documents.Val.{Text, Val, distinct}
use Rattle.fc_spec.specs.documents.Schema.{Field, FieldType, Schema, field_named}
use Rattle.fc_spec.specs.words.Walks.{each}
use Rattle.fc_spec.specs.documents.BlockReading.{Role, field_values, items_in, takes, value_of, values_for}
use Rattle.fc_spec.specs.documents.ValidBlocks.{AreValuesOf, is_value_of}
use Rattle.fc_base.specs.ValidSchema.{IsFieldList}
use Rattle.fc_base.proofs.NamesDiffer.{only_one}
use Rattle.fc_docs.specs.Direct.{Given, given_to, giving}
use Rattle.fc_docs.specs.DirectState.{AreRead}
use Rattle.fc_docs.specs.Members.{field_given}
use Rattle.fc_docs.proofs.GivenValues.{are_values, given_here, given_elsewhere, no_values}
use Rattle.fc_docs.proofs.MemberFields.{gives_nothing, gives_values, kind_of_found, name_of_found, never_named}
use Rattle.fc_docs.proofs.MemberValues.{values_are}
use Rattle.fc_docs.proofs.PutMembers.{put_checked}
use Rattle.fc_docs.proofs.ReadSoFar.{values_in}

nothing : (role : Role) (s : Schema) (count : ℕ) → AreRead role s no_members [] (replicate count false)
nothing role s count =
    record {
      checked = refl;
      values = λ n f at. refl;
      valid = λ n f at. no_values f.kind;
      unseen = λ n is. refl;
      within = All-nil (λ p. p.0 < length s.fields);
    }

pub nothing_read : (role : Role) (s : Schema) (given : Given) (count : ℕ) → given ≡ [] → AreRead role s no_members given (replicate count false)
nothing_read role s given count none = subst (λ ps. AreRead role s no_members ps (replicate count false)) (sym none) (nothing role s count)

-- ---- a field of another name
other_field : (f : Field) (key : Text) (d : Data) (found : Members) → (f.name ≡ key → ⊥) → field_values (put key d found) f ≡ field_values found f
other_field f key d found other = ap (values_in f.kind) (get_member-put_other f.name key d found other)

-- ---- a member that gives nothing
pub one_silent : (role : Role) (s : Schema) (found : Members) (given : Given) (seen : List Bool) (key : Text) (d : Data) → IsFieldList s.fields → field_given role s key d ≡ Ok None → AreRead role s found given seen → AreRead role s (put key d found) given seen
one_silent role s found given seen key d list silent read =
    let nothing = gives_nothing role s key d silent in
    record {
      checked = put_checked role s key d [] found nothing.0 read.checked;
      values = λ n f at. read.values n f at ∙ sym (other_field f key d found (never_named s key n f list at nothing.1));
      valid = read.valid;
      unseen = read.unseen;
      within = read.within;
    }

-- ---- a member of a field

-- the value of a member, which gives these values to the field
pub record GivesTo (s : Schema) (key : Text) (d : Data) (n : ℕ) (kind : FieldType) (vs : List Val) : Type 0 where
  pub named : field_named s key ≡ Some n
  pub typed : option_map (λ f. f.kind) (slice_get s.fields n) ≡ Some kind
  pub values : each (value_of kind) (items_in d) ≡ Ok vs
  pub few : takes kind (length vs) ≡ true
  pub valid : All (λ v. IsTrue (is_value_of kind v)) vs

this_field : (s : Schema) (found : Members) (key : Text) (d : Data) (n : ℕ) (f : Field) (kind : FieldType) (vs : List Val) → GivesTo s key d n kind vs → slice_get s.fields n ≡ Some f → field_values (put key d found) f ≡ distinct vs
this_field s found key d n f kind vs gives at =
    let is = name_of_found s key n f gives.named at in
    let found_here : get_member f.name (put key d found) ≡ Some d = ap (λ name. get_member name (put key d found)) is ∙ get_member-put key d found in
    let good : values_for f.kind d ≡ Ok (distinct vs) = ap (λ k. values_for k d) (kind_of_found s n f kind at gives.typed) ∙ values_are kind d vs (distinct vs) gives.values gives.few refl in
    ap (values_in f.kind) found_here ∙ ap (λ r. result_unwrap_or r []) good

still_unseen : (n m : ℕ) (seen : List Bool) → n < length seen → slice_index_or (set seen n true) m true ≡ false → (m ≢ n) × (slice_index_or seen m true ≡ false)
still_unseen n m seen below unseen =
    elim (cases_eq m n) [
      | inl same ↦ absurd (cc (ap (λ k. slice_index_or (set seen n true) k true) same, get_or-set_same seen n true true below))
      | inr other ↦ (other, sym (get_or-set_other seen n m true true other) ∙ unseen)
    ]

pub one_more : (role : Role) (s : Schema) (found : Members) (given : Given) (seen : List Bool) (key : Text) (d : Data) (n : ℕ) (kind : FieldType) (vs : List Val)
    → IsFieldList s.fields → field_given role s key d ≡ Ok (Some n) → GivesTo s key d n kind vs → n < length s.fields → n < length seen → slice_index_or seen n true ≡ false
    → AreRead role s found given seen → AreRead role s (put key d found) (given ++ giving n vs) (set seen n true)
one_more role s found given seen key d n kind vs list to_field gives below in_seen not_seen read =
    let good : values_for kind d ≡ Ok (distinct vs) = values_are kind d vs (distinct vs) gives.values gives.few refl in
    record {
      checked = put_checked role s key d (distinct vs) found ((gives_values role s key d n kind to_field gives.typed).1 ∙ good) read.checked;
      values = λ k f at. elim (cases_eq k n) [ inl same ↦ values_here k f at same | inr other ↦ values_there k f at other ];
      valid = λ k f at. elim (cases_eq k n) [ inl same ↦ valid_here k f at same | inr other ↦ subst (λ ws. AreValuesOf f.kind (distinct ws)) (sym (given_elsewhere k n given vs other)) (read.valid k f at) ];
      unseen = λ k unseen. let both = still_unseen n k seen in_seen unseen in given_elsewhere k n given vs both.0 ∙ read.unseen k both.1;
      within = All-append (λ (p : ℕ × Val). p.0 < length s.fields) given (giving n vs) read.within (All-map (λ (p : ℕ × Val). p.0 < length s.fields) (λ v. (n, v)) vs (λ k v at. below));
    }
  where
    all_here : (k : ℕ) → k ≡ n → given_to k (given ++ giving n vs) ≡ vs
    all_here k same = ap (λ m. given_to m (given ++ giving n vs)) same ∙ given_here n given vs (read.unseen n not_seen)

    values_here : (k : ℕ) (f : Field) → slice_get s.fields k ≡ Some f → k ≡ n → distinct (given_to k (given ++ giving n vs)) ≡ field_values (put key d found) f
    values_here k f at same = ap distinct (all_here k same) ∙ sym (this_field s found key d n f kind vs gives (ap (slice_get s.fields) (sym same) ∙ at))

    values_there : (k : ℕ) (f : Field) → slice_get s.fields k ≡ Some f → (k ≡ n → ⊥) → distinct (given_to k (given ++ giving n vs)) ≡ field_values (put key d found) f
    values_there k f at other = ap distinct (given_elsewhere k n given vs other) ∙ read.values k f at ∙ sym (other_field f key d found (λ is. other (only_one s.fields key n k f list gives.named at is)))

    valid_here : (k : ℕ) (f : Field) → slice_get s.fields k ≡ Some f → k ≡ n → AreValuesOf f.kind (distinct (given_to k (given ++ giving n vs)))
    valid_here k f at same =
        let of_kind = kind_of_found s n f kind (ap (slice_get s.fields) (sym same) ∙ at) gives.typed in
        subst (λ ws. AreValuesOf f.kind (distinct ws)) (sym (all_here k same)) (subst (λ t. AreValuesOf t (distinct vs)) (sym of_kind) (are_values kind vs gives.few gives.valid))
