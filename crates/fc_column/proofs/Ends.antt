-- The first and the last of integers in ascending order.
use Rattle.std.proofs.Common.{◌≡◌, ℕ, ℤ, zero, suc, ◌+◌, ◌-◌, ◌<◌, ◌≤◌, ◌≤ℤ◌, Bool, true, false, not, cond, ◌&&◌, ◌||◌, ◌==◌, List, [], ◌∷◌, length, get_or, count_by, All, refl, sym, ap, ap₂, subst, ◌∙◌, arith, eq-eqb, lt-ltb, zero-add}
use Rattle.std.proofs.lemmas.Bool.{false≢true}
use Rattle.std.proofs.lemmas.Int.{ints}
use Rattle.std.proofs.lemmas.List.{get_or_default}
use Rattle.std.proofs.lemmas.List.Elements.{All-head, All-tail}
use Rattle.std.proofs.lemmas.List.Sums.{get_or-le-sum_by}
use Rattle.std.specs.List.{list_any, zip}
use Rattle.std.specs.Ordering.{int_cmp, is_lt, is_le}
use Rattle.fc_spec.proofs.words.Counting.{count_by-cons}
use Rattle.fc_lane.specs.Between.{is_between}
use Rattle.fc_column.specs.Longs.{has_between}
use Rattle.fc_lists.specs.Ordered.{AreInOrder, count_beside}
use Rattle.fc_column.proofs.InOrder.{any_count, between_yes}

-- integers that fail a test stand beside no position
none_beside : (passes : ℤ → Bool) (at : ℕ) (values : List ℤ) (positions : List ℕ) → All (λ v. passes v ≡ false) values → count_beside passes at values positions ≡ 0
none_beside passes at [] positions none = refl
none_beside passes at (v ∷ values) [] none = refl
none_beside passes at (v ∷ values) (p ∷ positions) none =
    count_by-cons (λ (pair : ℤ × ℕ). passes pair.0 && (pair.1 == at)) (v, p) (zip values positions)
    ∙ ap (λ b. cond (b && (p == at)) 1 0 + count_beside passes at values positions) (All-head (λ x. passes x ≡ false) v values none)
    ∙ zero-add (count_beside passes at values positions) ∙ none_beside passes at values positions (All-tail (λ x. passes x ≡ false) v values none)

fails : {X : Type 0} (p : X → Bool) (x : X) (b : Bool) → p x ≡ b → cond (p x) 1 0 ≤ 0 → p x ≡ false
fails p x false e le = e
fails p x true e le = let one : cond (p x) 1 0 ≡ 1 = ap (λ b. cond {A = ℕ} b 1 0) e in absurd (omega (arith, le, one))

none_passes : {X : Type 0} (p : X → Bool) (xs : List X) → count_by p xs ≡ 0 → All (λ x. p x ≡ false) xs
none_passes p xs none = λ k d inside.
    let le = get_or-le-sum_by (λ x. cond (p x) 1 0) xs k d inside in
    fails p (get_or xs k d) (p (get_or xs k d)) refl (omega (arith, le, none))

-- what fails in the list of all integers fails in each row
fails_in_rows : (passes : ℤ → Bool) (values : List ℤ) (positions : List ℕ) (rows : List (List ℤ)) → AreInOrder values positions rows → All (λ v. passes v ≡ false) values
    → (at : ℕ) → All (λ v. passes v ≡ false) (get_or rows at [])
fails_in_rows passes values positions rows order none at = none_passes passes (get_or rows at []) (sym (order.same passes at) ∙ none_beside passes at values positions none)

up_to_last : (a b : ℤ) → is_lt (int_cmp b a) ≡ false → is_le (int_cmp a b) ≡ true
up_to_last a b h = grind (arith, ints)

pub first_up_to_last : (a b : ℤ) → is_lt (int_cmp b a) ≡ false → a ≤ℤ b
first_up_to_last a b h = grind (arith, ints)

pub between_ends : (values : List ℤ) (positions : List ℕ) (rows : List (List ℤ)) (least greatest : ℤ) → AreInOrder values positions rows
    → 0 < length values → least ≡ get_or values 0 least → greatest ≡ get_or values (length values - 1) greatest
    → All (All (λ value. is_between least greatest value ≡ true)) rows
between_ends values positions rows least greatest order some first last = λ at e inside i d within.
    let row : get_or rows at e ≡ get_or rows at [] = get_or_default rows at e [] inside in
    let none = fails_in_rows (λ v. not (is_between least greatest v)) values positions rows order all_between at in
    from_not (is_between least greatest (get_or (get_or rows at e) i d))
    (subst (All (λ v. not (is_between least greatest v) ≡ false)) (sym row) none i d within)
  where
    from_not : (b : Bool) → not b ≡ false → b ≡ true
    from_not true h = refl
    from_not false h = sym h

    all_between : All (λ v. not (is_between least greatest v) ≡ false) values
    all_between k d inside =
        let low = order.rising 0 k d (omega arith) inside in
        let high = order.rising k (length values - 1) d (omega arith) (omega arith) in
        let is_first : get_or values 0 d ≡ least = get_or_default values 0 d least some ∙ sym first in
        let is_last : get_or values (length values - 1) d ≡ greatest = get_or_default values (length values - 1) d greatest (omega arith) ∙ sym last in
        ap not (between_yes least greatest (get_or values k d) (ap (λ z. is_lt (int_cmp (get_or values k d) z)) (sym is_first) ∙ low)
        (up_to_last (get_or values k d) greatest (ap (λ z. is_lt (int_cmp z (get_or values k d))) (sym is_last) ∙ high)))

pub none_in_rows : (positions : List ℕ) (rows : List (List ℤ)) → AreInOrder [] positions rows → All (λ values. values ≡ []) rows
none_in_rows positions rows order = λ at e inside.
    let none = fails_in_rows (λ v. true) [] positions rows order (λ k d within. absurd (omega arith)) at in
    subst (λ row. row ≡ []) (get_or_default rows at [] e inside) (no_member (get_or rows at []) none)
  where
    no_member : (row : List ℤ) → All (λ v. true ≡ false) row → row ≡ []
    no_member [] h = refl
    no_member (z ∷ zs) h = absurd (false≢true (sym (All-head (λ (v : ℤ). true ≡ false) z zs h)))

-- ---- integers of the list are integers of positions
some_beside : (passes : ℤ → Bool) (values : List ℤ) (positions : List ℕ) (k : ℕ) (d : ℤ) → length positions ≡ length values → k < length values → passes (get_or values k d) ≡ true
    → 0 < count_beside passes (get_or positions k 0) values positions
some_beside passes [] positions k d even inside h = absurd (omega arith)
some_beside passes (v ∷ values) [] k d even inside h = absurd (omega arith)
some_beside passes (v ∷ values) (p ∷ positions) zero d even inside h =
    let split = count_by-cons (λ (pair : ℤ × ℕ). passes pair.0 && (pair.1 == p)) (v, p) (zip values positions) in
    let one : cond (passes v && (p == p)) 1 0 ≡ 1 = ap₂ (λ a b. cond {A = ℕ} (a && b) 1 0) h (eq-eqb p p refl) in
    omega (arith, split, one)
some_beside passes (v ∷ values) (p ∷ positions) (suc k) d even inside h =
    let at = get_or positions k 0 in
    let split = count_by-cons (λ (pair : ℤ × ℕ). passes pair.0 && (pair.1 == at)) (v, p) (zip values positions) in
    let others = some_beside passes values positions k d (omega arith) (omega arith) h in
    omega (arith, split, others)

any_of_row : {X : Type 0} (p : X → Bool) (rows : List (List X)) (at : ℕ) → list_any p (get_or rows at []) ≡ true → list_any (list_any p) rows ≡ true
any_of_row p [] at h = h
any_of_row p (row ∷ rows) zero h = ap (λ b. b || list_any (list_any p) rows) h
any_of_row p (row ∷ rows) (suc at) h = go (list_any p row) (any_of_row p rows at h)
  where
    go : (b : Bool) → list_any (list_any p) rows ≡ true → (b || list_any (list_any p) rows) ≡ true
    go true rest = refl
    go false rest = rest

between_itself : (z : ℤ) → is_between z z z ≡ true
between_itself z = grind (arith, ints)

pub there_in_rows : (values : List ℤ) (positions : List ℕ) (rows : List (List ℤ)) (k : ℕ) (z : ℤ) → AreInOrder values positions rows → k < length values → z ≡ get_or values k z
    → list_any (has_between z z) rows ≡ true
there_in_rows values positions rows k z order inside is =
    let at = get_or positions k 0 in
    let some = some_beside (is_between z z) values positions k z order.even inside (ap (is_between z z) (sym is) ∙ between_itself z) in
    let count = order.same (is_between z z) at in
    any_of_row (is_between z z) rows at
    (any_count (is_between z z) (get_or rows at []) ∙ lt-ltb 0 (count_by (is_between z z) (get_or rows at [])) (omega (arith, some, count)))

-- none is there where no position has an integer
pub none_there : (p : ℤ → Bool) (rows : List (List ℤ)) → All (λ values. values ≡ []) rows → list_any (list_any p) rows ≡ false
none_there p [] none = refl
none_there p (row ∷ rows) none =
    ap₂ (λ l b. list_any p l || b) (All-head (λ values. values ≡ []) row rows none) (none_there p rows (All-tail (λ values. values ≡ []) row rows none))
