-- What is looked for in a JSON object, beside the entries of its map.
use Rattle.std.proofs.Common.{◌≡◌, List, [], ◌∷◌, length, map, Bool, true, false, ◌||◌, Bor, Option, Some, None, String, Global, string_bytes, refl, sym, ◌∙◌, ap, arith}
use Rattle.std.specs.List.{slice_get, list_any}
use Rattle.serde_json.specs.Data.{Data, null, boolean, number, string, array, object}
use Rattle.serde_json.specs.Find.{as_object}
use Rattle.serde_json.specs.View.{view, members_view}
use Rattle.serde_json.specs.declared.value.Value.{Value}
use Rattle.fc_spec.specs.documents.Val.{Text, same_text}
use Rattle.fc_spec.specs.scripts.JsonObjects.{sole_member, only_names, member_count}

abbrev pub MapEntry : Type 0
MapEntry = String Global × Value

-- the only member that entries show
abbrev pub sole_entry : List MapEntry → Option (Text × Data)
sole_entry (e ∷ []) = Some (string_bytes e.0, view e.1)
sole_entry _ = None

sole_member-object : (es : List MapEntry) → sole_member (object (members_view es)) ≡ sole_entry es
sole_member-object [] = refl
sole_member-object (e ∷ []) = refl
sole_member-object (e ∷ f ∷ es) = refl

pub sole_member-entries : (d : Data) (es : List MapEntry) → Some (members_view es) ≡ as_object d → sole_member d ≡ sole_entry es
sole_member-entries (object ms) es is =
    let same : members_view es ≡ ms = cc in
    ap (λ m. sole_member (object m)) (sym same) ∙ sole_member-object es
sole_member-entries null es is = cc
sole_member-entries (boolean b) es is = cc
sole_member-entries (number x) es is = cc
sole_member-entries (string s) es is = cc
sole_member-entries (array ds) es is = cc

pub not_sole : (es : List MapEntry) → (length es ≡ 1 → ⊥) → sole_entry es ≡ None
not_sole [] other = refl
not_sole (e ∷ []) other = absurd (other (omega arith))
not_sole (e ∷ f ∷ es) other = refl

pub is_sole : (es : List MapEntry) (e : MapEntry) → length es ≡ 1 → slice_get es 0 ≡ Some e → sole_entry es ≡ Some (string_bytes e.0, view e.1)
is_sole [] e one first = absurd (omega arith)
is_sole (f ∷ []) e one first =
    let same : f ≡ e = cc in
    ap (λ x. Some (string_bytes x.0, view x.1)) same
is_sole (f ∷ g ∷ es) e one first = absurd (omega arith)

-- ---- names of members

list_any-map : {X Y : Type 0} (p : Y → Bool) (f : X → Y) (xs : List X) → list_any p (map f xs) ≡ list_any (λ x. p (f x)) xs
list_any-map p f [] = refl
list_any-map p f (x ∷ xs) = ap (λ b. p (f x) || b) (list_any-map p f xs)

-- the members with one more in front, whose name is among these, or is not
pub among : (names : List (Bor Text)) (e : MapEntry) (rest : List MapEntry) → true ≡ list_any (λ other. same_text (string_bytes e.0) other.now) names → only_names (map (λ name. name.now) names) (members_view (e ∷ rest)) ≡ only_names (map (λ name. name.now) names) (members_view rest)
among names e rest is = rw (list_any-map (same_text (string_bytes e.0)) (λ name. name.now) names, ← is) refl

pub not_among : (names : List (Bor Text)) (e : MapEntry) (rest : List MapEntry) → false ≡ list_any (λ other. same_text (string_bytes e.0) other.now) names → only_names (map (λ name. name.now) names) (members_view (e ∷ rest)) ≡ false
not_among names e rest is = rw (list_any-map (same_text (string_bytes e.0)) (λ name. name.now) names, ← is) refl

-- ---- the number of members

-- a map's entries are the members that it shows
pub count-members_view : (es : List MapEntry) → member_count (members_view es) ≡ length es
count-members_view [] = refl
count-members_view (e ∷ es) = omega (arith, count-members_view es)
