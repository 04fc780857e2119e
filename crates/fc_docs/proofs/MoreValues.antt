-- One more value behind those that are kept, of the last field that has any or of one behind it.
use Rattle.std.proofs.Common.{◌≡◌, ℕ, ◌+◌, ◌<◌, ◌≤◌, List, [], ◌∷◌, ◌++◌, length, map, take, drop, eqb, Bool, cond, true, false, arith, refl, sym, ◌∙◌, ap, ap₂}
use Rattle.std.specs.List.{AllByRecursion}
use Rattle.std.proofs.lemmas.Bool.{eqb-true, eqb-false}
use Rattle.std.proofs.lemmas.List.{nil_from_length, take_all, map-append, append-nil, length-drop, length-append, take-append-le, drop-append-le}
use Rattle.std.proofs.lemmas.List.Elements.{All-from_recursion, recursion_from_All}
use Rattle.fc_base.specs.declared.field.FieldId.{FieldId}
use Rattle.fc_base.specs.declared.value.Val as code
use Rattle.fc_base.specs.View.{val_view}
use Rattle.fc_spec.specs.documents.Val.{Val}
use Rattle.fc_docs.specs.Direct.{given_to}
use Rattle.fc_docs.specs.Fields.{FieldValues, Ascend, HaveValues, values_at}
use Rattle.fc_docs.specs.Kept.{parts, value_count}
use Rattle.fc_docs.specs.Runs.{one_more}
use Rattle.fc_docs.proofs.Entries.{Entry}
use Rattle.fc_docs.proofs.OneMore.{Count}
use Rattle.fc_docs.proofs.Parts.{count_first, parts-push}

abbrev pub more : FieldValues → ℕ → Val → FieldValues
more [] n v = (n, v ∷ []) ∷ []
more (e ∷ []) n v = cond (eqb e.0 n) ((e.0, e.1 ++ v ∷ []) ∷ []) (e ∷ (n, v ∷ []) ∷ [])
more (e ∷ f ∷ es) n v = e ∷ more (f ∷ es) n v

-- no field is behind this one
abbrev pub Upto : ℕ → FieldValues → Type 0
Upto n es = AllByRecursion (λ (e : Entry). e.0 ≤ n) es

-- ---- what is kept
pub parts-one_more : (cs : List Count) (vs : List code.Val) (field : FieldId) (v : code.Val) → value_count cs ≡ length vs
    → parts (one_more cs field) (vs ++ v ∷ []) ≡ more (parts cs vs) field.0 (val_view v)
parts-one_more [] vs field v whole = ap (λ us. parts ((field, 1) ∷ []) (us ++ v ∷ [])) (nil_from_length vs (omega arith))
parts-one_more (c ∷ []) vs field v whole = go (eqb c.0.0 field.0)
  where
    go : (b : Bool) → parts (cond b ((c.0, c.1 + 1) ∷ []) (c ∷ (field, 1) ∷ [])) (vs ++ v ∷ [])
        ≡ cond b ((c.0.0, map val_view (take c.1 vs) ++ val_view v ∷ []) ∷ []) ((c.0.0, map val_view (take c.1 vs)) ∷ (field.0, val_view v ∷ []) ∷ [])
    go true =
        let first = count_first c [] in
        let all = take_all (c.1 + 1) (vs ++ v ∷ []) (omega (arith, length-append vs (v ∷ []))) in
        let before = take_all c.1 vs (omega arith) in
        ap (λ us. (c.0.0, map val_view us) ∷ []) all ∙ ap (λ ws. (c.0.0, ws) ∷ []) (map-append val_view vs (v ∷ []))
        ∙ ap (λ us. (c.0.0, map val_view us ++ val_view v ∷ []) ∷ []) (sym before)
    go false = parts-push (c ∷ []) vs (field, 1) (v ∷ []) whole refl
parts-one_more (c ∷ d ∷ cs) vs field v whole =
    let first = count_first c (d ∷ cs) in
    ap₂ (λ us left. (c.0.0, map val_view us) ∷ parts (one_more (d ∷ cs) field) left) (take-append-le c.1 vs (v ∷ []) (omega arith)) (drop-append-le c.1 vs (v ∷ []) (omega arith))
    ∙ ap (λ es. (c.0.0, map val_view (take c.1 vs)) ∷ es) (parts-one_more (d ∷ cs) (drop c.1 vs) field v (omega (arith, length-drop c.1 vs)))

-- ---- the fields
pub upto-more : (es : FieldValues) (n : ℕ) (v : Val) → Upto n es → Upto n (more es n v)
upto-more [] n v below = (omega arith, tt)
upto-more (e ∷ []) n v below = go (eqb e.0 n)
  where
    go : (b : Bool) → Upto n (cond b ((e.0, e.1 ++ v ∷ []) ∷ []) (e ∷ (n, v ∷ []) ∷ []))
    go true = (below.0, tt)
    go false = (below.0, (omega arith, tt))
upto-more (e ∷ f ∷ es) n v below = (below.0, upto-more (f ∷ es) n v below.1)

pub upto-later : (m n : ℕ) (es : FieldValues) → m ≤ n → Upto m es → Upto n es
upto-later m n [] later below = tt
upto-later m n (e ∷ es) later below = (omega (arith, below.0), upto-later m n es later below.1)

pub ascend-more : (a : ℕ) (es : FieldValues) (n : ℕ) (v : Val) → a ≤ n → Ascend a es → Upto n es → Ascend a (more es n v)
ascend-more a [] n v least up below = (least, tt)
ascend-more a (e ∷ []) n v least up below = go (eqb e.0 n) refl
  where
    go : (b : Bool) → eqb e.0 n ≡ b → Ascend a (cond b ((e.0, e.1 ++ v ∷ []) ∷ []) (e ∷ (n, v ∷ []) ∷ []))
    go true is = (up.0, tt)
    go false is = (up.0, (omega (arith, eqb-false e.0 n is, below.0), tt))
ascend-more a (e ∷ f ∷ es) n v least up below = (up.0, ascend-more (e.0 + 1) (f ∷ es) n v (omega (arith, up.1.0, below.1.0)) up.1 below.1)

some-more : (es : FieldValues) (n : ℕ) (v : Val) → AllByRecursion (λ (e : Entry). 0 < length e.1) es → AllByRecursion (λ (e : Entry). 0 < length e.1) (more es n v)
some-more [] n v some = (omega arith, tt)
some-more (e ∷ []) n v some = go (eqb e.0 n)
  where
    go : (b : Bool) → AllByRecursion (λ (e : Entry). 0 < length e.1) (cond b ((e.0, e.1 ++ v ∷ []) ∷ []) (e ∷ (n, v ∷ []) ∷ []))
    go true = (omega (arith, length-append e.1 (v ∷ [])), tt)
    go false = (some.0, (omega arith, tt))
some-more (e ∷ f ∷ es) n v some = (some.0, some-more (f ∷ es) n v some.1)

pub have_values-more : (es : FieldValues) (n : ℕ) (v : Val) → HaveValues es → HaveValues (more es n v)
have_values-more es n v some =
    All-from_recursion (λ (e : Entry). 0 < length e.1) (more es n v) (some-more es n v (recursion_from_All (λ (e : Entry). 0 < length e.1) es some))

-- ---- the values
pub values_at-more : (a : ℕ) (es : FieldValues) (n : ℕ) (v : Val) → Ascend a es → Upto n es → (m : ℕ) → values_at (more es n v) m ≡ values_at es m ++ given_to m ((n, v) ∷ [])
values_at-more a [] n v up below m = refl
values_at-more a (e ∷ []) n v up below m = go (eqb e.0 n) refl (eqb m e.0) refl (eqb m n) refl
  where
    go : (b : Bool) → eqb e.0 n ≡ b → (here : Bool) → eqb m e.0 ≡ here → (new : Bool) → eqb m n ≡ new
        → values_at (cond b ((e.0, e.1 ++ v ∷ []) ∷ []) (e ∷ (n, v ∷ []) ∷ [])) m ≡ cond here e.1 [] ++ cond new (v ∷ []) []
    go true b true h true k = rw h refl
    go true b true h false k = absurd (omega (arith, eqb-true e.0 n b, eqb-true m e.0 h, eqb-false m n k))
    go true b false h true k = absurd (omega (arith, eqb-true e.0 n b, eqb-false m e.0 h, eqb-true m n k))
    go true b false h false k = rw h refl
    go false b true h true k = absurd (omega (arith, eqb-false e.0 n b, eqb-true m e.0 h, eqb-true m n k))
    go false b true h false k = rw h (sym (append-nil e.1))
    go false b false h true k = rw (h, k) refl
    go false b false h false k = rw (h, k) refl
values_at-more a (e ∷ f ∷ es) n v up below m = go (eqb m e.0) refl (eqb m n) refl (values_at-more (e.0 + 1) (f ∷ es) n v up.1 below.1 m)
  where
    go : (here : Bool) → eqb m e.0 ≡ here → (new : Bool) → eqb m n ≡ new → values_at (more (f ∷ es) n v) m ≡ values_at (f ∷ es) m ++ cond new (v ∷ []) []
        → cond here e.1 (values_at (more (f ∷ es) n v) m) ≡ cond here e.1 (values_at (f ∷ es) m) ++ cond new (v ∷ []) []
    go true h true k later = absurd (omega (arith, eqb-true m e.0 h, eqb-true m n k, up.1.0, below.1.0))
    go true h false k later = sym (append-nil e.1)
    go false h new k later = later
