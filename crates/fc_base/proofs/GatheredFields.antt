-- Gathering the fields of a schema, member by member.
use Rattle.std.proofs.Common.{◌≡◌, ◌≤◌, List, [], ◌∷◌, ◌++◌, length, map, Bool, true, false, Option, Some, None, option_map, option_and_then, if◌then◌else◌, sym, subst, refl, append_assoc}
use Rattle.std.specs.Prelude.{codes}
use Rattle.std.specs.declared.cmp.Ordering.TheVariants.{Less}
use Rattle.std.specs.List.{All, AllByRecursion, list_any}
use Rattle.std.specs.List.Sorted.{IsStrictlySortedBy}
use Rattle.std.proofs.lemmas.List.Elements.{All-nil, All-cons, All-head, All-tail}
use Rattle.serde_json.specs.Data.{Data, Members, no_members, member}
use Rattle.fc_spec.specs.documents.Val.{Text, same_text, text_cmp}
use Rattle.fc_spec.specs.documents.Schema.{Field, FieldType}
use Rattle.fc_spec.specs.documents.SchemaReading.{is_field_name, type_of, type_for, field_of, fields_of, without_id, with_id}
use Rattle.fc_base.specs.ValidSchema.{id_field, IsFieldList}
use Rattle.fc_base.proofs.Members.{member_keys}

-- the fields that are done, and those that the rest of the members name; none where one of them is bad
abbrev pub gathered : List Field → Members → Option (List Field)
gathered done rest = option_map (λ fs. done ++ without_id fs) (fields_of rest)

pub one_bad : (done : List Field) (name : Text) (d : Data) (rest : Members) → None ≡ field_of name d → gathered done (member name d rest) ≡ None
one_bad done name d rest bad = rw (← bad) refl

abbrev put_in_front : List Field → Field → Option (List Field) → Option (List Field)
put_in_front done f rest = option_map (λ fs. done ++ without_id fs) (option_map (λ fs. f ∷ fs) rest)

behind_another : (done : List Field) (f : Field) (rest : Option (List Field)) → same_text f.name (codes "id") ≡ false → put_in_front done f rest ≡ option_map (λ fs. (done ++ f ∷ []) ++ without_id fs) rest
behind_another done f None other = refl
behind_another done f (Some fs) other = rw (other, append_assoc) refl

pub one_more : (done : List Field) (name : Text) (d : Data) (rest : Members) (f : Field) → Some f ≡ field_of name d → same_text f.name (codes "id") ≡ false → gathered done (member name d rest) ≡ gathered (done ++ f ∷ []) rest
one_more done name d rest f good other = rw (← good) (behind_another done f (fields_of rest) other)

-- where the members were gathered, they name good fields
pub all_bad : (ms : Members) → gathered (id_field ∷ []) ms ≡ None → option_and_then with_id (fields_of ms) ≡ None
all_bad ms none = go (fields_of ms) none
  where
    go : (found : Option (List Field)) → option_map (λ fs. (id_field ∷ []) ++ without_id fs) found ≡ None → option_and_then with_id found ≡ None
    go None none = refl
    go (Some fs) none = cc

-- ---- the fields that were gathered are a list of a schema
name_of_field : (name : Text) (d : Data) (f : Field) → field_of name d ≡ Some f → f.name ≡ name
name_of_field name d f is = go (is_field_name name) (option_and_then (type_for name) (type_of d)) is
  where
    go : (b : Bool) (kind : Option FieldType) → (if b then option_map (λ k. record { name = name; kind = k }) kind else None) ≡ Some f → f.name ≡ name
    go true (Some k) is = cc
    go true None is = cc
    go false kind is = cc

names_are_keys : (ms : Members) (fs : List Field) → fields_of ms ≡ Some fs → map (λ f. f.name) fs ≡ member_keys ms
names_are_keys no_members fs is = cc
names_are_keys (member name d ms) fs is = go (field_of name d) (fields_of ms) refl refl is (names_are_keys ms)
  where
    go : (first : Option Field) (others : Option (List Field)) → field_of name d ≡ first → fields_of ms ≡ others → option_and_then (λ f. option_map (λ gs. f ∷ gs) others) first ≡ Some fs → ((gs : List Field) → fields_of ms ≡ Some gs → map (λ f. f.name) gs ≡ member_keys ms) → map (λ f. f.name) fs ≡ name ∷ member_keys ms
    go None others first_is others_are is keys = cc
    go (Some f) None first_is others_are is keys = cc
    go (Some f) (Some gs) first_is others_are is keys =
        let front = name_of_field name d f first_is in let behind = keys gs others_are in
        let all : f ∷ gs ≡ fs = cc in
        rw (← all, front, behind) refl

-- ---- each has a field's name
abbrev IsNamed : Field → Type 0
IsNamed f = is_field_name f.name ≡ true

good_name : (name : Text) (d : Data) (f : Field) → field_of name d ≡ Some f → IsNamed f
good_name name d f is = go (is_field_name name) refl (option_and_then (type_for name) (type_of d)) is
  where
    go : (b : Bool) → is_field_name name ≡ b → (kind : Option FieldType) → (if b then option_map (λ k. record { name = name; kind = k }) kind else None) ≡ Some f → IsNamed f
    go true good (Some k) is = let same : name ≡ f.name = cc in rw (← same) good
    go true good None is = cc
    go false good kind is = cc

good_names : (ms : Members) (fs : List Field) → fields_of ms ≡ Some fs → All IsNamed fs
good_names no_members fs is = let none : [] ≡ fs = cc in rw (← none) (All-nil IsNamed)
good_names (member name d ms) fs is = go (field_of name d) (fields_of ms) refl refl is (good_names ms)
  where
    go : (first : Option Field) (others : Option (List Field)) → field_of name d ≡ first → fields_of ms ≡ others → option_and_then (λ f. option_map (λ gs. f ∷ gs) others) first ≡ Some fs → ((gs : List Field) → fields_of ms ≡ Some gs → All IsNamed gs) → All IsNamed fs
    go None others first_is others_are is names = cc
    go (Some f) None first_is others_are is names = cc
    go (Some f) (Some gs) first_is others_are is names = let all : f ∷ gs ≡ fs = cc in rw (← all) (All-cons IsNamed f gs (good_name name d f first_is) (names gs others_are))

still_named : (fs : List Field) → All IsNamed fs → All IsNamed (without_id fs)
still_named [] names = names
still_named (f ∷ fs) names =
    elim (same_text f.name (codes "id")) as (λ b. All IsNamed (if b then without_id fs else f ∷ without_id fs))
    [ true ↦ still_named fs (All-tail IsNamed f fs names) | false ↦ All-cons IsNamed f (without_id fs) (All-head IsNamed f fs names) (still_named fs (All-tail IsNamed f fs names)) ]

all_kept : (P : Text → Type 0) (fs : List Field) → AllByRecursion P (map (λ f. f.name) fs) → AllByRecursion P (map (λ f. f.name) (without_id fs))
all_kept P [] all = all
all_kept P (f ∷ fs) all =
    elim (same_text f.name (codes "id")) as (λ b. AllByRecursion P (map (λ f. f.name) (if b then without_id fs else f ∷ without_id fs)))
    [ true ↦ all_kept P fs all.1 | false ↦ (all.0, all_kept P fs all.1) ]

still_ascend : (fs : List Field) → IsStrictlySortedBy text_cmp (map (λ f. f.name) fs) → IsStrictlySortedBy text_cmp (map (λ f. f.name) (without_id fs))
unfolding IsStrictlySortedBy
still_ascend [] ascend = ascend
still_ascend (f ∷ fs) ascend =
    elim (same_text f.name (codes "id")) as (λ b. IsStrictlySortedBy text_cmp (map (λ f. f.name) (if b then without_id fs else f ∷ without_id fs)))
    [ true ↦ still_ascend fs ascend.1 | false ↦ (all_kept (λ k. text_cmp f.name k ≡ Less) fs ascend.0, still_ascend fs ascend.1) ]

none_is_id : (fs : List Field) → list_any (λ f. same_text f.name (codes "id")) (without_id fs) ≡ false
none_is_id [] = refl
none_is_id (f ∷ fs) = go (same_text f.name (codes "id")) refl (none_is_id fs)
  where
    go : (b : Bool) → same_text f.name (codes "id") ≡ b → list_any (λ f. same_text f.name (codes "id")) (without_id fs) ≡ false → list_any (λ f. same_text f.name (codes "id")) (if b then without_id fs else f ∷ without_id fs) ≡ false
    go true is others = others
    go false is others = rw is others

pub is_field_list : (ms : Members) (done : List Field) → IsStrictlySortedBy text_cmp (member_keys ms) → gathered (id_field ∷ []) ms ≡ Some done → length done ≤ 256 → IsFieldList done
is_field_list ms done ascend is few = go (fields_of ms) refl is
  where
    go : (found : Option (List Field)) → fields_of ms ≡ found → option_map (λ fs. (id_field ∷ []) ++ without_id fs) found ≡ Some done → IsFieldList done
    go None found_is is = cc
    go (Some fs) found_is is =
        let all : id_field ∷ without_id fs ≡ done = cc in
        let sorted : IsStrictlySortedBy text_cmp (map (λ f. f.name) fs) = rw (names_are_keys ms fs found_is) ascend in
        rw (← all) (record { names = All-cons IsNamed id_field (without_id fs) refl (still_named fs (good_names ms fs found_is)); id_first = refl; id_once = none_is_id fs; ascend = still_ascend fs sorted; few = subst (λ (xs : List Field). length xs ≤ 256) (sym all) few })
