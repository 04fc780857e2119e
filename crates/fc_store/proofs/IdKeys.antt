-- A set of lent ids, beside what operations name.
use Rattle.std.proofs.Common.{slice_index_or, ◌≡◌, List, [], ◌∷◌, Bool, true, false, ◌||◌, Bor, Ordering, Less, Equal, Greater, refl, sym, ap, ap₂, ◌∙◌}
use Rattle.std.proofs.Math.Bool.{or-false}
use Rattle.std.specs.Cmp.{eq_by_cmp_equiv}
use Rattle.std.specs.Cmp.Lexicographic.{nat_list_cmp_total}
use Rattle.std.proofs.lemmas.Map.Lookups.{exact_bytes}
use Rattle.std.specs.List.{list_any}
use Rattle.std.specs.Ordering.{match_ordering}
use Rattle.std.specs.BTreeMap.{is_at}
use Rattle.std.specs.BTreeSet.{insert_key}
use Rattle.fc_spec.specs.documents.Val.{has_val, Text, Val, text, long, text_cmp, same_text}
use Rattle.fc_spec.specs.documents.Columns.{texts_in}
use Rattle.fc_spec.specs.documents.Document.{Block, values_of}
use Rattle.fc_spec.specs.documents.Operations.{id_of}
use Rattle.fc_store.specs.Named.{has_one_of, texts_of, IsText}

-- names that are lent, in the order of their texts
abbrev pub lent_cmp : Bor Text → Bor Text → Ordering
lent_cmp a b = text_cmp a.now b.now

twice : (a r : Bool) → (a || r) ≡ (a || (a || r))
twice true r = refl
twice false r = refl

swapped : (a b r : Bool) → (a || (b || r)) ≡ (b || (a || r))
swapped true true r = refl
swapped true false r = refl
swapped false true r = refl
swapped false false r = refl

-- after an insert one passes a test where the key does or one did
pub any_inserted : (test : Text → Bool) (k : Bor Text) (ks : List (Bor Text)) → list_any test (texts_of (insert_key lent_cmp ks k)) ≡ (test k.now || list_any test (texts_of ks))
any_inserted test k [] = refl
any_inserted test k (x ∷ ks) = go (text_cmp k.now x.now) (exact_bytes k.now x.now) (any_inserted test k ks)
  where
    go : (r : Ordering) → (r ≡ Equal → k.now ≡ x.now) → list_any test (texts_of (insert_key lent_cmp ks k)) ≡ (test k.now || list_any test (texts_of ks))
        → list_any test (texts_of (match_ordering r (k ∷ x ∷ ks) (x ∷ ks) (x ∷ insert_key lent_cmp ks k))) ≡ (test k.now || (test x.now || list_any test (texts_of ks)))
    go Less same rest = refl
    go Equal same rest = twice (test x.now) (list_any test (texts_of ks)) ∙ ap (λ t. test t || (test x.now || list_any test (texts_of ks))) (sym (same refl))
    go Greater same rest = ap (λ b. test x.now || b) rest ∙ swapped (test x.now) (test k.now) (list_any test (texts_of ks))

among : (t : Bor Text) (ids : List (Bor Text)) → list_any (is_at (lent_cmp t)) ids ≡ list_any (λ x. has_val (text x) (text t.now ∷ [])) (texts_of ids)
among t [] = refl
among t (x ∷ ids) = ap₂ (λ a b. a || b) ((eq_by_cmp_equiv nat_list_cmp_total).symm t.now x.now ∙ sym (or-false (same_text x.now t.now))) (among t ids)

-- the text of a block's id is among ids where one of these is the block's
pub id_among : (b : Block) → IsText (values_of b.parent 0) → (key : Bor Text) → key.now ≡ id_of b → (ids : List (Bor Text)) → list_any (is_at (lent_cmp key)) ids ≡ has_one_of (texts_of ids) b
id_among b is key own ids = go (values_of b.parent 0) refl is
  where
    go : (values : List Val) → values_of b.parent 0 ≡ values → IsText values → list_any (is_at (lent_cmp key)) ids ≡ has_one_of (texts_of ids) b
    go [] same names = absurd names
    go (long n ∷ values) same names = absurd names
    go (text t ∷ v ∷ values) same names = absurd names
    go (text t ∷ []) same names =
        let is_t : key.now ≡ t = own ∙ ap (λ vs. slice_index_or (texts_in vs) 0 []) same in
        among key ids ∙ ap (λ k. list_any (λ x. has_val (text x) (text k ∷ [])) (texts_of ids)) is_t ∙ ap (λ vs. list_any (λ x. has_val (text x) vs) (texts_of ids)) (sym same)
