-- Integers in ascending order, each with its position.
use Rattle.std.proofs.Common.{◌≡◌, ℕ, ℤ, zero, suc, ◌+◌, ◌-◌, ◌<◌, ◌≤◌, ◌⊎◌, inl, inr, Bool, true, false, cond, ◌&&◌, ◌||◌, ◌==◌, nat_lt, List, [], ◌∷◌, length, get_or, take, drop, map, slice_range, count_by, All, refl, sym, ap, ap₂, ◌∙◌, arith, w64, eq-eqb, lt-ltb, zero-add}
use Rattle.std.proofs.lemmas.Bool.{cases_lt}
use Rattle.std.proofs.lemmas.Int.{ints}
use Rattle.std.proofs.lemmas.List.{get_or_past, nil_from_length, length-take, length-drop}
use Rattle.std.proofs.lemmas.List.Sums.{get_or-le-sum_by}
use Rattle.std.proofs.lemmas.Slice.{between_from_start}
use Rattle.std.specs.List.{list_any, zip}
use Rattle.std.specs.List.Sorted.{IsPartitionedBy}
use Rattle.std.specs.Ordering.{int_cmp, is_lt, is_le}
use Rattle.fc_spec.proofs.words.Counting.{count_by-cons}
use Rattle.std.specs.Prelude.{FitsSigned}
use Rattle.fc_spec.specs.documents.IntegerTexts.{is_long}
use Rattle.fc_lists.specs.Among.{is_among}
use Rattle.fc_lane.specs.Between.{is_between}
use Rattle.fc_lists.specs.Ordered.{Rise, count_beside, AreInOrder}
use Rattle.fc_lists.proofs.Marks.{same_either}

-- ---- integers that compare
below_through : (a b lo : ℤ) → is_lt (int_cmp b a) ≡ false → is_lt (int_cmp b lo) ≡ true → is_lt (int_cmp a lo) ≡ true
below_through a b lo order below = grind (arith, ints)

upto_through : (a b hi : ℤ) → is_lt (int_cmp b a) ≡ false → is_le (int_cmp b hi) ≡ true → is_le (int_cmp a hi) ≡ true
upto_through a b hi order upto = grind (arith, ints)

pub between_yes : (lo hi z : ℤ) → is_lt (int_cmp z lo) ≡ false → is_le (int_cmp z hi) ≡ true → is_between lo hi z ≡ true
between_yes lo hi z from upto = grind (arith, ints)

pub between_low : (lo hi z : ℤ) → is_lt (int_cmp z lo) ≡ true → is_between lo hi z ≡ false
between_low lo hi z below = grind (arith, ints)

pub between_high : (lo hi z : ℤ) → is_le (int_cmp z hi) ≡ false → is_between lo hi z ≡ false
between_high lo hi z above = grind (arith, ints)

pub low_in_front : (values : List ℤ) (lo : ℤ) → Rise values → IsPartitionedBy (λ v. is_lt (int_cmp v lo)) values
low_in_front values lo rise = λ i j d order within below. below_through (get_or values i d) (get_or values j d) lo (rise i j d order within) below

pub upto_in_front : (values : List ℤ) (hi : ℤ) → Rise values → IsPartitionedBy (λ v. is_le (int_cmp v hi)) values
upto_in_front values hi rise = λ i j d order within upto. upto_through (get_or values i d) (get_or values j d) hi (rise i j d order within) upto

-- ---- a part of the integers
slice_of_none : (a b : ℕ) → slice_range {X = ℕ} [] a b ≡ []
slice_of_none a b =
    nil_from_length (slice_range [] a b) (omega (arith, length-take (b - a) (drop {A = ℕ} a []), length-drop {A = ℕ} a []))

pub count_span : (passes : ℤ → Bool) (at : ℕ) (values : List ℤ) (positions : List ℕ) (from to : ℕ) → length positions ≡ length values → from ≤ to → to ≤ length values
    → ((k : ℕ) (d : ℤ) → k < from → passes (get_or values k d) ≡ false)
    → ((k : ℕ) (d : ℤ) → from ≤ k → k < to → passes (get_or values k d) ≡ true)
    → ((k : ℕ) (d : ℤ) → to ≤ k → k < length values → passes (get_or values k d) ≡ false)
    → count_beside passes at values positions ≡ count_by (λ p. p == at) (slice_range positions from to)
count_span passes at [] [] from to even order within front mid rest = sym (ap (count_by (λ p. p == at)) (slice_of_none from to))
count_span passes at [] (p ∷ positions) from to even order within front mid rest = absurd (omega arith)
count_span passes at (v ∷ values) [] from to even order within front mid rest = absurd (omega arith)
count_span passes at (v ∷ values) (p ∷ positions) zero zero even order within front mid rest =
    let others = count_span passes at values positions zero zero (omega arith) (omega arith) (omega arith)
    (λ k d none. absurd (omega arith)) (λ k d _ none. absurd (omega arith)) (λ k d from inside. rest (suc k) d (omega arith) (omega arith)) in
    count_by-cons (λ (pair : ℤ × ℕ). passes pair.0 && (pair.1 == at)) (v, p) (zip values positions)
    ∙ ap₂ (λ b n. cond (b && (p == at)) 1 0 + n) (rest 0 v (omega arith) (omega arith)) others
    ∙ zero-add (count_by (λ q. q == at) (slice_range positions zero zero))
    ∙ ap (count_by (λ q. q == at)) (between_from_start positions zero ∙ sym (between_from_start (p ∷ positions) zero))
count_span passes at (v ∷ values) (p ∷ positions) zero (suc to) even order within front mid rest =
    let others = count_span passes at values positions zero to (omega arith) (omega arith) (omega arith)
    (λ k d none. absurd (omega arith)) (λ k d _ below. mid (suc k) d (omega arith) (omega arith)) (λ k d from inside. rest (suc k) d (omega arith) (omega arith)) in
    count_by-cons (λ (pair : ℤ × ℕ). passes pair.0 && (pair.1 == at)) (v, p) (zip values positions)
    ∙ ap₂ (λ b n. cond (b && (p == at)) 1 0 + n) (mid 0 v (omega arith) (omega arith)) (others ∙ ap (count_by (λ q. q == at)) (between_from_start positions to))
    ∙ sym (ap (count_by (λ q. q == at)) (between_from_start (p ∷ positions) (suc to)) ∙ count_by-cons (λ q. q == at) p (take to positions))
count_span passes at (v ∷ values) (p ∷ positions) (suc from) zero even order within front mid rest = absurd (omega arith)
count_span passes at (v ∷ values) (p ∷ positions) (suc from) (suc to) even order within front mid rest =
    let others = count_span passes at values positions from to (omega arith) (omega arith) (omega arith)
    (λ k d below. front (suc k) d (omega arith)) (λ k d above below. mid (suc k) d (omega arith) (omega arith)) (λ k d past inside. rest (suc k) d (omega arith) (omega arith)) in
    let size : suc to - suc from ≡ to - from = omega arith in
    count_by-cons (λ (pair : ℤ × ℕ). passes pair.0 && (pair.1 == at)) (v, p) (zip values positions)
    ∙ ap₂ (λ b n. cond (b && (p == at)) 1 0 + n) (front 0 v (omega arith)) others
    ∙ zero-add (count_by (λ q. q == at) (slice_range positions from to))
    ∙ ap (λ n. count_by (λ q. q == at) (take n (drop from positions))) (sym size)

-- ---- counts and members
pub any_count : {X : Type 0} (p : X → Bool) (xs : List X) → list_any p xs ≡ nat_lt 0 (count_by p xs)
any_count p [] = refl
any_count p (x ∷ xs) = go (p x) (any_count p xs) ∙ ap (nat_lt 0) (sym (count_by-cons p x xs))
  where
    go : (b : Bool) → list_any p xs ≡ nat_lt 0 (count_by p xs) → (b || list_any p xs) ≡ nat_lt 0 (cond b 1 0 + count_by p xs)
    go true rest = sym (lt-ltb 0 (1 + count_by p xs) (omega arith))
    go false rest = rest ∙ ap (nat_lt 0) (sym (zero-add (count_by p xs)))

among_count : (at : ℕ) (positions : List ℕ) → is_among at positions ≡ list_any (λ p. p == at) positions
among_count at [] = refl
among_count at (p ∷ positions) = ap₂ (λ a b. a || b) (same_either at p) (among_count at positions)

pub among_if_any : (p : ℤ → Bool) (at : ℕ) (positions : List ℕ) (row : List ℤ) → count_by (λ q. q == at) positions ≡ count_by p row → is_among at positions ≡ list_any p row
among_if_any p at positions row same = among_count at positions ∙ any_count (λ q. q == at) positions ∙ ap (nat_lt 0) same ∙ sym (any_count p row)

pub positions_in_rows : (p : ℤ → Bool) (positions : List ℕ) (rows : List (List ℤ)) → ((at : ℕ) → count_by (λ q. q == at) positions ≡ count_by p (get_or rows at []))
    → All (λ at. at < length rows) positions
positions_in_rows p positions rows same k d inside = elim (cases_lt (get_or positions k d) (length rows)) [
  | inl within ↦ within
  | inr past ↦
      let at = get_or positions k d in
      let some = get_or-le-sum_by (λ q. cond (q == at) 1 0) positions k d inside in
      let one : cond (at == at) 1 0 ≡ 1 = ap (λ b. cond {A = ℕ} b 1 0) (eq-eqb at at refl) in
      let none = same at ∙ ap (count_by p) (get_or_past rows at [] past) in
      absurd (omega (arith, some, one, none))
]

-- ---- the positions from where the integers reach `lo` up to where they pass `hi`
module _ (lo hi : ℤ) (values : List ℤ) (positions : List ℕ) (rows : List (List ℤ)) (order : AreInOrder values positions rows) (from to : ℕ)
    (below : (k : ℕ) (d : ℤ) → 0 ≤ k → k < from → is_lt (int_cmp (get_or values k d) lo) ≡ true)
    (reached : (k : ℕ) (d : ℤ) → from ≤ k → k < length values → is_lt (int_cmp (get_or values k d) lo) ≡ false)
    (upto : (k : ℕ) (d : ℤ) → 0 ≤ k → k < to → is_le (int_cmp (get_or values k d) hi) ≡ true)
    (past : (k : ℕ) (d : ℤ) → to ≤ k → k < length values → is_le (int_cmp (get_or values k d) hi) ≡ false)
    (within : to ≤ length values) where
  pub span_counts : from ≤ to → (at : ℕ) → count_by (λ p. p == at) (slice_range positions from to) ≡ count_by (is_between lo hi) (get_or rows at [])
  span_counts ordered at =
      sym (count_span (is_between lo hi) at values positions from to order.even ordered within
      (λ k d low. between_low lo hi (get_or values k d) (below k d (omega arith) low))
      (λ k d above low. between_yes lo hi (get_or values k d) (reached k d above (omega arith)) (upto k d (omega arith) low))
      (λ k d above inside. between_high lo hi (get_or values k d) (past k d above inside)))
      ∙ order.same (is_between lo hi) at

  pub none_counts : to ≤ from → (at : ℕ) → 0 ≡ count_by (is_between lo hi) (get_or rows at [])
  none_counts crossed at =
      sym (ap (count_by (λ p. p == at)) (between_from_start positions 0))
      ∙ sym (count_span (is_between lo hi) at values positions 0 0 order.even (omega arith) (omega arith)
      (λ k d none. absurd (omega arith)) (λ k d _ none. absurd (omega arith))
      (λ k d _ inside. outside k d inside (cases_lt k from)))
      ∙ order.same (is_between lo hi) at
    where
      outside : (k : ℕ) (d : ℤ) → k < length values → ((k < from) ⊎ (from ≤ k)) → is_between lo hi (get_or values k d) ≡ false
      outside k d inside (inl low) = between_low lo hi (get_or values k d) (below k d (omega arith) low)
      outside k d inside (inr high) = between_high lo hi (get_or values k d) (past k d (omega arith) inside)

-- whether a value of a position passes, position by position
pub any_at : {X : Type 0} (p : X → Bool) (rows : List (List X)) (at : ℕ) → list_any p (get_or rows at []) ≡ get_or (map (list_any p) rows) at false
any_at p [] at = refl
any_at p (row ∷ rows) zero = refl
any_at p (row ∷ rows) (suc at) = any_at p rows at

pub long_if_fits : (z : ℤ) → FitsSigned w64 z → is_long z ≡ true
long_if_fits z fits = grind (arith, ints)
