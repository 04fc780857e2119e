-- Entries in the order of their integers.
use Rattle.std.proofs.Common.{◌≡◌, ℕ, ℤ, ◌+◌, ◌<◌, inl, inr, Bool, true, false, cond, ◌&&◌, ◌==◌, List, [], ◌∷◌, length, get_or, map, count_by, All, refl, sym, ap, ap₂, ◌∙◌, arith, zero-add}
use Rattle.std.proofs.lemmas.Bool.{cases_lt}
use Rattle.std.proofs.lemmas.Cmp.{int_cmp_total}
use Rattle.std.proofs.lemmas.List.{get_or-map, get_or_past, length-map}
use Rattle.std.proofs.lemmas.List.FromFn.{length-map-range_with_len, get_or-map-range_with_len}
use Rattle.std.proofs.lemmas.List.Sorted.{sorted_far, ranks_by}
use Rattle.std.specs.List.{zip}
use Rattle.std.specs.List.Sorted.{IsSortedByKey}
use Rattle.std.specs.Ordering.{int_cmp, is_lt}
use Rattle.fc_spec.proofs.words.Counting.{count_by-cons}
use Rattle.fc_lists.specs.declared.entries.Entry.{Entry}
use Rattle.fc_lists.specs.Items.{items_at, rows_below}
use Rattle.fc_lists.specs.Ordered.{Rise, count_beside, AreInOrder, AreInOrderOf}
use Rattle.fc_lists.proofs.ItemsAt.{items_at_none}

-- ---- what a sort gives
pub rise_of_sorted : (es : List (Entry ℤ)) → IsSortedByKey (λ e. e.item) int_cmp es → Rise (map (λ e. e.item) es)
rise_of_sorted es sorted = λ i j d order within.
    let none : Entry ℤ = record { at = 0; item = d } in
    let size = length-map es (λ (e : Entry ℤ). e.item) in
    let at = λ (k : ℕ) (inside : k < length es). get_or-map (λ (e : Entry ℤ). e.item) es k none d inside in
    ap₂ (λ a b. is_lt (int_cmp a b)) (at j (omega arith)) (at i (omega arith))
    ∙ sorted_far (λ (x y : Entry ℤ). is_lt (int_cmp x.item y.item)) (ranks_by int_cmp_total (λ (e : Entry ℤ). e.item)) es sorted i j none order (omega arith)

pub beside_sorted : (passes : ℤ → Bool) (at : ℕ) (es : List (Entry ℤ))
    → count_beside passes at (map (λ e. e.item) es) (map (λ e. e.at) es) ≡ count_by (λ e. passes e.item && (e.at == at)) es
beside_sorted passes at [] = refl
beside_sorted passes at (e ∷ es) =
    count_by-cons (λ (pair : ℤ × ℕ). passes pair.0 && (pair.1 == at)) (e.item, e.at) (zip (map (λ x. x.item) es) (map (λ x. x.at) es))
    ∙ ap (λ n. cond (passes e.item && (e.at == at)) 1 0 + n) (beside_sorted passes at es)
    ∙ sym (count_by-cons (λ (x : Entry ℤ). passes x.item && (x.at == at)) e es)

-- ---- the rows of entries
and_cond : (a b : Bool) (n : ℕ) → cond (a && b) 1 0 + n ≡ cond b (cond a 1 0 + n) n
and_cond true true n = refl
and_cond true false n = zero-add n
and_cond false true n = refl
and_cond false false n = zero-add n

count_of_row : (passes : ℤ → Bool) (at : ℕ) (es : List (Entry ℤ)) → count_by (λ e. passes e.item && (e.at == at)) es ≡ count_by passes (items_at es at)
count_of_row passes at [] = refl
count_of_row passes at (e ∷ es) =
    count_by-cons (λ (x : Entry ℤ). passes x.item && (x.at == at)) e es
    ∙ ap (λ n. cond (passes e.item && (e.at == at)) 1 0 + n) (count_of_row passes at es)
    ∙ and_cond (passes e.item) (e.at == at) (count_by passes (items_at es at))
    ∙ go (e.at == at)
  where
    go : (b : Bool) → cond b (cond (passes e.item) 1 0 + count_by passes (items_at es at)) (count_by passes (items_at es at))
        ≡ count_by passes (cond b (e.item ∷ items_at es at) (items_at es at))
    go true = sym (count_by-cons passes e.item (items_at es at))
    go false = refl

row_of : (es : List (Entry ℤ)) (len at : ℕ) → All (λ e. e.at < len) es → get_or (rows_below es len) at [] ≡ items_at es at
row_of es len at below = elim (cases_lt at len) [
  | inl within ↦ get_or-map-range_with_len (items_at es) 0 len at at [] within (omega arith)
  | inr past ↦
      get_or_past (rows_below es len) at [] (omega (arith, length-map-range_with_len (items_at es) 0 len))
      ∙ sym (items_at_none es at (λ k d inside same. let less = below k d inside in omega arith))
]

pub order_of_rows : (es : List (Entry ℤ)) (len : ℕ) (values : List ℤ) (positions : List ℕ) → All (λ e. e.at < len) es
    → AreInOrderOf es values positions → AreInOrder values positions (rows_below es len)
order_of_rows es len values positions below are = record {
  even = are.even;
  rising = are.rising;
  same = λ passes at. are.same passes at ∙ count_of_row passes at es ∙ ap (count_by passes) (sym (row_of es len at below));
}
