-- A document that was read member by member, as far as the rest of the members.
use Rattle.std.proofs.Common.{◌≡◌, ℕ, ◌<◌, List, [], length, get_or, set, replicate, Option, Some, None, option_map, unwrap_or, Ok, slice_get, sym, ◌∙◌, refl, inl, inr, subst}
use Rattle.std.specs.List.{AllByRecursion}
use Rattle.std.specs.List.Sorted.{IsStrictlySortedBy}
use Rattle.std.specs.Ordering.{match_ordering}
use Rattle.std.specs.Result.{result_unwrap_or}
use Rattle.std.specs.declared.cmp.Ordering.{Ordering}
use Rattle.std.specs.declared.cmp.Ordering.TheVariants.{Less, Equal, Greater}
use Rattle.std.specs.Cmp.Lexicographic.{nat_list_cmp_total}
use Rattle.std.proofs.lemmas.Bool.{cases_lt, cases_eq}
use Rattle.std.proofs.lemmas.Cmp.{tied_itself}
use Rattle.std.proofs.lemmas.List.{get_or_past, get_or-replicate, get_or-set_same, get_or-set_other, length-replicate, length-set}
use Rattle.std.proofs.lemmas.List.Quantifiers.{position-Some}
use Rattle.std.proofs.lemmas.Map.Keys.{sorted_head, sorted_tail}
use Rattle.std.proofs.lemmas.Map.Lookups.{exact_bytes}
use Rattle.std.proofs.lemmas.Option.{slice_get-get_or}
use Rattle.serde_json.specs.Data.{Data, Members, no_members, member}
use Rattle.serde_json.specs.Find.{get_member}
use Rattle.fc_spec.specs.documents.Val.{Text, text_cmp, same_text, Val}
use Rattle.fc_spec.specs.documents.Document.{Document, values_of}
use Rattle.fc_spec.specs.documents.Schema.{Field, FieldType, Schema, field_named}
use Rattle.fc_spec.specs.documents.BlockReading.{Role, check_members, values_for}
use Rattle.fc_spec.specs.documents.ValidBlocks.{AreValuesOf}
use Rattle.fc_base.specs.ValidSchema.{id_field, IsFieldList}
use Rattle.fc_base.proofs.Members.{member_keys}
use Rattle.fc_base.proofs.NamesDiffer.{only_one}
use Rattle.fc_docs.specs.Members.{field_given}
use Rattle.fc_docs.proofs.GivenValues.{no_values}
use Rattle.fc_docs.proofs.MemberFields.{gives_nothing, gives_values, kind_of_found, name_of_found, never_named}

-- the values that the member of a field's name gives, where there is one
abbrev pub values_in : FieldType → Option Data → List Val
values_in kind found = unwrap_or (option_map (λ d. result_unwrap_or (values_for kind d) []) found) []

-- the member of a field's name among all, and among those that are left: where none is left, its values were read
abbrev pub IsRead : FieldType → Option Data → Option Data → List Val → Type 0
IsRead kind all None vs = vs ≡ values_in kind all
IsRead kind all (Some d) vs = (vs ≡ []) × (all ≡ Some d)

pub record ReadSoFar (role : Role) (s : Schema) (all : Members) (d : Document) (rest : Members) : Type 0 where
  pub faults : check_members role s all ≡ check_members role s rest
  pub lists : length d ≡ length s.fields
  pub parts : (k : ℕ) (f : Field) → slice_get s.fields k ≡ Some f → IsRead f.kind (get_member f.name all) (get_member f.name rest) (values_of d k)
  pub valid : (k : ℕ) (f : Field) → slice_get s.fields k ≡ Some f → AreValuesOf f.kind (values_of d k)
  pub ascend : IsStrictlySortedBy text_cmp (member_keys rest)

-- ---- before the first member
none_of_empty : (n k : ℕ) → values_of (replicate n []) k ≡ []
none_of_empty n k = elim (cases_lt k n) [ inl below ↦ get_or-replicate n k [] [] below | inr past ↦ get_or_past (replicate n []) k [] (rw (length-replicate {A = List Val} n []) past) ]

nothing_yet : (kind : FieldType) (found : Option Data) → IsRead kind found found []
nothing_yet kind None = refl
nothing_yet kind (Some d) = (refl, refl)

pub nothing_read : (role : Role) (s : Schema) (all : Members) (n : ℕ) → n ≡ length s.fields → IsStrictlySortedBy text_cmp (member_keys all) → ReadSoFar role s all (replicate n []) all
nothing_read role s all n count ascend =
    record {
      faults = refl;
      lists = length-replicate n [] ∙ count;
      parts = λ k f at. subst (IsRead f.kind (get_member f.name all) (get_member f.name all)) (sym (none_of_empty n k)) (nothing_yet f.kind (get_member f.name all));
      valid = λ k f at. subst (AreValuesOf f.kind) (sym (none_of_empty n k)) (no_values f.kind);
      ascend = ascend;
    }

-- ---- a member of another name, and one of this name
no_member_below : (name : Text) (ms : Members) → AllByRecursion (λ k. text_cmp name k ≡ Less) (member_keys ms) → get_member name ms ≡ None
no_member_below name no_members below = refl
no_member_below name (member key v ms) below = rw (below.0) (no_member_below name ms below.1)

other_member : (name key : Text) (v : Data) (ms : Members) → (name ≡ key → ⊥) → get_member name (member key v ms) ≡ get_member name ms
other_member name key v ms other = go (text_cmp name key) refl
  where
    go : (o : Ordering) → text_cmp name key ≡ o → match_ordering o (get_member name ms) (Some v) (get_member name ms) ≡ get_member name ms
    go Less is = refl
    go Equal is = absurd (other (exact_bytes name key is))
    go Greater is = refl

other_field : (role : Role) (s : Schema) (all : Members) (d : Document) (key : Text) (v : Data) (rest : Members) (k : ℕ) (f : Field) → ReadSoFar role s all d (member key v rest) → slice_get s.fields k ≡ Some f → (f.name ≡ key → ⊥) → IsRead f.kind (get_member f.name all) (get_member f.name rest) (values_of d k)
other_field role s all d key v rest k f so_far at other =
    subst (λ (left : Option Data). IsRead f.kind (get_member f.name all) left (values_of d k)) (other_member f.name key v rest other) (so_far.parts k f at)

-- before its member is read, a field has no values
unread : (role : Role) (s : Schema) (all : Members) (d : Document) (key : Text) (v : Data) (rest : Members) (k : ℕ) (f : Field) → ReadSoFar role s all d (member key v rest) → slice_get s.fields k ≡ Some f → f.name ≡ key → (values_of d k ≡ []) × (get_member f.name all ≡ Some v)
unread role s all d key v rest k f so_far at is =
    let here : get_member f.name (member key v rest) ≡ Some v = rw (is, tied_itself nat_list_cmp_total key) refl in
    subst (λ (left : Option Data). IsRead f.kind (get_member f.name all) left (values_of d k)) here (so_far.parts k f at)

this_field : (role : Role) (s : Schema) (all : Members) (d : Document) (key : Text) (v : Data) (rest : Members) (k : ℕ) (f : Field) (vs : List Val) → ReadSoFar role s all d (member key v rest) → slice_get s.fields k ≡ Some f → f.name ≡ key → values_for f.kind v ≡ Ok vs → IsRead f.kind (get_member f.name all) (get_member f.name rest) vs
this_field role s all d key v rest k f vs so_far at is good =
    let read = unread role s all d key v rest k f so_far at is in
    let behind : get_member f.name rest ≡ None = rw is (no_member_below key rest (sorted_head text_cmp key (member_keys rest) so_far.ascend)) in
    let whole : vs ≡ values_in f.kind (get_member f.name all) = rw (read.1, good) refl in
    subst (λ (left : Option Data). IsRead f.kind (get_member f.name all) left vs) (sym behind) whole

-- ---- a member of a field
pub no_values_yet : (role : Role) (s : Schema) (all : Members) (d : Document) (key : Text) (v : Data) (rest : Members) (j : ℕ) (kind : FieldType) → ReadSoFar role s all d (member key v rest) → field_given role s key v ≡ Ok (Some j) → option_map (λ f. f.kind) (slice_get s.fields j) ≡ Some kind → (j < length s.fields) × (values_of d j ≡ [])
no_values_yet role s all d key v rest j kind so_far given typed =
    let named = (gives_values role s key v j kind given typed).0 in
    let below = (position-Some (λ (g : Field). same_text key g.name) s.fields j id_field named).0 in
    let f = get_or s.fields j id_field in
    let at = slice_get-get_or s.fields j id_field below in
    (below, (unread role s all d key v rest j f so_far at (name_of_found s key j f named at)).0)

pub one_more : (role : Role) (s : Schema) (all : Members) (d : Document) (key : Text) (v : Data) (rest : Members) (j : ℕ) (kind : FieldType) (vs : List Val) → ReadSoFar role s all d (member key v rest) → IsFieldList s.fields → field_given role s key v ≡ Ok (Some j) → option_map (λ f. f.kind) (slice_get s.fields j) ≡ Some kind → values_for kind v ≡ Ok vs → AreValuesOf kind vs → ReadSoFar role s all (set d j vs) rest
one_more role s all d key v rest j kind vs so_far list given typed good are =
    let named = gives_values role s key v j kind given typed in
    let below : j < length d = rw (so_far.lists) (position-Some (λ (g : Field). same_text key g.name) s.fields j id_field named.0).0 in
    record {
      faults = so_far.faults ∙ rw (named.1, good) refl;
      lists = length-set d j vs ∙ so_far.lists;
      parts = λ k f at. elim (cases_eq k j) [ inl same ↦ here k f at same below named.0 | inr other ↦ there k f at other named.0 ];
      valid = λ k f at. elim (cases_eq k j) [ inl same ↦ here_valid k f at same below | inr other ↦ subst (AreValuesOf f.kind) (sym (get_or-set_other d j k vs [] other)) (so_far.valid k f at) ];
      ascend = sorted_tail text_cmp key (member_keys rest) so_far.ascend;
    }
  where
    set_here : (k : ℕ) → k ≡ j → j < length d → values_of (set d j vs) k ≡ vs
    set_here k same below = rw same (get_or-set_same d j vs [] below)

    here : (k : ℕ) (f : Field) → slice_get s.fields k ≡ Some f → k ≡ j → j < length d → field_named s key ≡ Some j → IsRead f.kind (get_member f.name all) (get_member f.name rest) (values_of (set d j vs) k)
    here k f at same below named =
        let at_j : slice_get s.fields j ≡ Some f = rw same at at in
        let of_kind : values_for f.kind v ≡ Ok vs = rw (kind_of_found s j f kind at_j typed) good in
        subst (IsRead f.kind (get_member f.name all) (get_member f.name rest)) (sym (set_here k same below)) (this_field role s all d key v rest k f vs so_far at (name_of_found s key j f named at_j) of_kind)

    there : (k : ℕ) (f : Field) → slice_get s.fields k ≡ Some f → (k ≡ j → ⊥) → field_named s key ≡ Some j → IsRead f.kind (get_member f.name all) (get_member f.name rest) (values_of (set d j vs) k)
    there k f at other named =
        subst (IsRead f.kind (get_member f.name all) (get_member f.name rest)) (sym (get_or-set_other d j k vs [] other)) (other_field role s all d key v rest k f so_far at (λ is. other (only_one s.fields key j k f list named at is)))

    here_valid : (k : ℕ) (f : Field) → slice_get s.fields k ≡ Some f → k ≡ j → j < length d → AreValuesOf f.kind (values_of (set d j vs) k)
    here_valid k f at same below = let at_j : slice_get s.fields j ≡ Some f = rw same at at in rw (set_here k same below, kind_of_found s j f kind at_j typed) are

-- ---- a member that gives nothing
pub one_silent : (role : Role) (s : Schema) (all : Members) (d : Document) (key : Text) (v : Data) (rest : Members) → ReadSoFar role s all d (member key v rest) → IsFieldList s.fields → field_given role s key v ≡ Ok None → ReadSoFar role s all d rest
one_silent role s all d key v rest so_far list given =
    let nothing = gives_nothing role s key v given in
    record {
      faults = so_far.faults ∙ rw nothing.0 refl;
      lists = so_far.lists;
      parts = λ k f at. other_field role s all d key v rest k f so_far at (never_named s key k f list at nothing.1);
      valid = so_far.valid;
      ascend = sorted_tail text_cmp key (member_keys rest) so_far.ascend;
    }
