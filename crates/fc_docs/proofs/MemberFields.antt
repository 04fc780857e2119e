-- The field that a member gives values to, and what the member's values are then.
use Rattle.std.proofs.Common.{◌≡◌, ℕ, List, [], length, Bool, true, false, not, ◌&&◌, nat_le, Option, Some, None, option_map, Result, Ok, Err, ok_or, slice_get, slice_index, if◌then◌else◌, refl, sym, ◌∙◌, ap}
use Rattle.std.specs.List.{list_all}
use Rattle.std.proofs.lemmas.Bool.{and_parts}
use Rattle.std.proofs.lemmas.List.Quantifiers.{position-Some}
use Rattle.std.proofs.lemmas.Option.{get_or_from_slice_get, slice_get_within}
use Rattle.serde_json.specs.Data.{Data}
use Rattle.fc_spec.specs.documents.Val.{Text, Val, same_text}
use Rattle.fc_spec.specs.documents.DocFault.{DocFault, unknown_field, deep_children}
use Rattle.fc_spec.specs.documents.Schema.{Field, FieldType, Schema, field_named}
use Rattle.fc_spec.specs.documents.SchemaReading.{is_digit, is_field_name, is_name_byte, is_underscored}
use Rattle.fc_spec.specs.words.Walks.{◌>>=◌}
use Rattle.fc_spec.specs.documents.BlockReading.{Role, as_parent, as_child, check_children, children_key, holds_nothing, member_values, type_in, values_for}
use Rattle.fc_spec.proofs.words.Texts.{equal}
use Rattle.fc_base.specs.ValidSchema.{IsFieldList}
use Rattle.fc_docs.specs.Members.{field_given}

-- another key that begins and ends with `_`
abbrev pub is_passed_over : Text → Bool
is_passed_over key = nat_le 2 (length key) && is_underscored key

-- ---- the field that is found
pub name_of_found : (s : Schema) (key : Text) (j : ℕ) (f : Field) → field_named s key ≡ Some j → slice_get s.fields j ≡ Some f → f.name ≡ key
name_of_found s key j f named at =
    let found = position-Some (λ (g : Field). same_text key g.name) s.fields j f named in
    sym (equal key f.name (rw (get_or_from_slice_get s.fields j f f at) at found.1))

pub kind_of_found : (s : Schema) (j : ℕ) (f : Field) (kind : FieldType) → slice_get s.fields j ≡ Some f → option_map (λ g. g.kind) (slice_get s.fields j) ≡ Some kind → f.kind ≡ kind
kind_of_found s j f kind at typed = let both : Some f.kind ≡ Some kind = rw at at typed in cc

-- ---- a name of a field
last_fails : (a b c d : Bool) → (a && b && c && d && false) ≡ true → ⊥
last_fails true true true true h = cc
last_fails true true true false h = cc
last_fails true true false d h = cc
last_fails true false c d h = cc
last_fails false b c d h = cc

pub no_name : (t : Text) → is_field_name t ≡ true → is_underscored t ≡ true → ⊥
no_name t good over =
    let failing = rw over at good in
    last_fails (nat_le 1 (length t)) (nat_le (length t) 64) (list_all is_name_byte t) (not (is_digit (slice_index t 0))) failing

-- no field has the name of a key that is passed over
pub never_named : (s : Schema) (key : Text) (n : ℕ) (f : Field) → IsFieldList s.fields → slice_get s.fields n ≡ Some f → is_underscored key ≡ true → f.name ≡ key → ⊥
never_named s key n f list at over is =
    let named : is_field_name key ≡ true = rw (← is) (rw (get_or_from_slice_get s.fields n f f at) at (list.names n f (slice_get_within s.fields n f at))) in
    no_name key named over

-- ---- what the code found
pub ok_or_none : {A F : Type 0} (e f : F) (o : Option A) → Err e ≡ ok_or o f → o ≡ None → e ≡ f
ok_or_none e f None is none = cc
ok_or_none e f (Some a) is none = cc

pub passed_over : (role : Role) (s : Schema) (key : Text) (d : Data) → same_text key children_key ≡ false → is_passed_over key ≡ true → field_given role s key d ≡ Ok None
passed_over role s key d other over = rw (other, over) refl

pub unknown : (role : Role) (s : Schema) (key : Text) (d : Data) → same_text key children_key ≡ false → is_passed_over key ≡ false → field_named s key ≡ None → field_given role s key d ≡ Err unknown_field
unknown role s key d other kept none = rw (other, kept, none) refl

pub known : (role : Role) (s : Schema) (key : Text) (d : Data) (n : ℕ) → same_text key children_key ≡ false → is_passed_over key ≡ false → field_named s key ≡ Some n → field_given role s key d ≡ Ok (Some n)
known role s key d n other kept named = rw (other, kept, named) refl

-- ---- what it means for the member's values
abbrev no_field_of : Result (List Val) DocFault → Result (Option ℕ) DocFault
no_field_of checked = checked >>= λ _. Ok None

-- the three kinds of key, with what each gives
abbrev given_by : Bool → Bool → Role → Data → Option ℕ → Result (Option ℕ) DocFault
given_by is_children is_over role d named = if is_children then no_field_of (check_children role d) else (if is_over then Ok None else ok_or (option_map (λ n. Some n) named) unknown_field)

abbrev values_by : Bool → Bool → Role → Data → Option FieldType → Result (List Val) DocFault
values_by is_children is_over role d kind = if is_children then check_children role d else (if is_over then Ok [] else (ok_or kind unknown_field >>= λ k. values_for k d))

same_fault : (checked : Result (List Val) DocFault) (e : DocFault) → no_field_of checked ≡ Err e → checked ≡ Err e
same_fault (Ok vs) e is = cc
same_fault (Err f) e is = cc

never_a_field : (checked : Result (List Val) DocFault) (n : ℕ) → no_field_of checked ≡ Ok (Some n) → ⊥
never_a_field (Ok vs) n is = cc
never_a_field (Err f) n is = cc

no_value : (role : Role) (d : Data) → no_field_of (check_children role d) ≡ Ok None → check_children role d ≡ Ok []
no_value as_parent d is = refl
no_value as_child d is = go (holds_nothing d) is
  where
    deep : Bool → Result (List Val) DocFault
    deep b = if b then Ok [] else Err deep_children

    go : (b : Bool) → no_field_of (deep b) ≡ Ok None → deep b ≡ Ok []
    go true is = refl
    go false is = cc

pub bad_key : (role : Role) (s : Schema) (key : Text) (d : Data) (e : DocFault) → field_given role s key d ≡ Err e → member_values role s key d ≡ Err e
bad_key role s key d e is = go (same_text key children_key) (is_passed_over key) (field_named s key) refl is
  where
    go : (is_children is_over : Bool) (named : Option ℕ) → field_named s key ≡ named → given_by is_children is_over role d named ≡ Err e → values_by is_children is_over role d (type_in s key) ≡ Err e
    go true over named named_is is = same_fault (check_children role d) e is
    go false true named named_is is = cc
    go false false None named_is is = rw named_is (let same : unknown_field ≡ e = cc in ap Err same)
    go false false (Some n) named_is is = cc

pub gives_nothing : (role : Role) (s : Schema) (key : Text) (d : Data) → field_given role s key d ≡ Ok None → (member_values role s key d ≡ Ok []) × (is_underscored key ≡ true)
gives_nothing role s key d is = go (same_text key children_key) (is_passed_over key) refl refl (field_named s key) is
  where
    go : (is_children is_over : Bool) → same_text key children_key ≡ is_children → is_passed_over key ≡ is_over → (named : Option ℕ) → given_by is_children is_over role d named ≡ Ok None → (values_by is_children is_over role d (type_in s key) ≡ Ok []) × (is_underscored key ≡ true)
    go true over same is_over named is = (no_value role d is, rw (equal key children_key same) refl)
    go false true other over named is = (refl, (and_parts (nat_le 2 (length key)) (is_underscored key) over).1)
    go false false other kept None is = cc
    go false false other kept (Some n) is = cc

pub gives_values : (role : Role) (s : Schema) (key : Text) (d : Data) (n : ℕ) (kind : FieldType) → field_given role s key d ≡ Ok (Some n) → option_map (λ f. f.kind) (slice_get s.fields n) ≡ Some kind → (field_named s key ≡ Some n) × (member_values role s key d ≡ values_for kind d)
gives_values role s key d n kind is typed = go (same_text key children_key) (is_passed_over key) (field_named s key) refl is
  where
    go : (is_children is_over : Bool) (named : Option ℕ) → field_named s key ≡ named → given_by is_children is_over role d named ≡ Ok (Some n) → (field_named s key ≡ Some n) × (values_by is_children is_over role d (type_in s key) ≡ values_for kind d)
    go true over named named_is is = absurd (never_a_field (check_children role d) n is)
    go false true named named_is is = cc
    go false false None named_is is = cc
    go false false (Some m) named_is is =
        let same : m ≡ n = cc in
        let found : field_named s key ≡ Some n = named_is ∙ ap Some same in
        (found, rw (found, typed) refl)
