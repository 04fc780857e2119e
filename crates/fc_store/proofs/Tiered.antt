-- Tiers: fewer of them, one more, and the last of them as one.
use Rattle.std.proofs.Common.{◌≡◌, ◌==◌, ℕ, zero, suc, ◌+◌, ◌-◌, ◌*◌, ◌<◌, ◌≤◌, ◌⊎◌, inl, inr, List, [], ◌∷◌, ◌++◌, length, get_or, take, drop, cond, sum, All, refl, sym, ap, subst, ◌∙◌, arith, length-append, eq-eqb, ne_eqb}
use Rattle.std.proofs.lemmas.Bool.{cases_eq}
use Rattle.std.proofs.lemmas.List.{append-nil, get_or-take, length-take}
use Rattle.std.proofs.lemmas.List.Elements.{All-append, All-cons, All-head, All-nil}
use Rattle.std.proofs.lemmas.List.Sums.{sum_by-drop_more}
use Rattle.std.proofs.Math.Seq.{take-append_seam}
use Rattle.fc_store.specs.Tiers.{AreTiered}

-- the size of a segment, if it has a document
abbrev pub some_size : ℕ → List ℕ
some_size n = cond (n == 0) [] (n ∷ [])

pub none_or_one : (t : ℕ) → ((t ≡ 0) × (some_size t ≡ [])) ⊎ ((0 < t) × (some_size t ≡ t ∷ []))
none_or_one t = go (cases_eq t 0)
  where
    go : ((t ≡ 0) ⊎ (t ≡ 0 → ⊥)) → ((t ≡ 0) × (some_size t ≡ [])) ⊎ ((0 < t) × (some_size t ≡ t ∷ []))
    go (inl none) = inl (none, ap (λ b. cond b [] (t ∷ [])) (eq-eqb t 0 none))
    go (inr some) = inr (omega arith, ap (λ b. cond b [] (t ∷ [])) (ne_eqb t 0 some))

at_least_one : (n m : ℕ) (xs : List ℕ) → AreTiered (n ∷ m ∷ xs) → 1 ≤ n
at_least_one n m [] are = omega (arith, are.0, are.1)
at_least_one n m (o ∷ xs) are = let rest = at_least_one m o xs are.1 in omega (arith, are.0, rest)

pub tiered_take : (k : ℕ) (xs : List ℕ) → AreTiered xs → AreTiered (take k xs)
tiered_take zero xs are = tt
tiered_take (suc k) [] are = tt
tiered_take (suc zero) (n ∷ []) are = are
tiered_take (suc zero) (n ∷ m ∷ xs) are = at_least_one n m xs are
tiered_take (suc (suc k)) (n ∷ []) are = are
tiered_take (suc (suc k)) (n ∷ m ∷ xs) are = (are.0, tiered_take (suc k) (m ∷ xs) are.1)

tiered_push : (xs : List ℕ) (t : ℕ) → AreTiered xs → 1 ≤ t → (0 < length xs → 2 * t ≤ get_or xs (length xs - 1) 0) → AreTiered (xs ++ t ∷ [])
tiered_push [] t are some low = some
tiered_push (n ∷ []) t are some low = (low (omega arith), some)
tiered_push (n ∷ m ∷ xs) t are some low =
    let place : length (n ∷ m ∷ xs) - 1 ≡ suc (length (m ∷ xs) - 1) = omega arith in
    (are.0, tiered_push (m ∷ xs) t are.1 some (λ more. let same = ap (λ i. get_or (n ∷ m ∷ xs) i 0) place in omega (arith, low (omega arith), same)))

pub shorter : {X : Type 0} (k n : ℕ) (xs : List X) → k ≤ n → take k (take n xs) ≡ take k xs
shorter zero n xs low = refl
shorter (suc k) zero xs low = absurd (omega arith)
shorter (suc k) (suc n) [] low = refl
shorter (suc k) (suc n) (x ∷ xs) low = ap (λ l. x ∷ l) (shorter k n xs (omega arith))

-- the first of all but the last
tiered_front : (sizes : List ℕ) (place : ℕ) → AreTiered (take (length sizes - 1) sizes) → place < length sizes → AreTiered (take place sizes)
tiered_front sizes place are inside =
    subst AreTiered (shorter place (length sizes - 1) sizes (omega arith)) (tiered_take place (take (length sizes - 1) sizes) are)

-- ---- the sum of those from a place on

pub sum_from : (sizes : List ℕ) (place : ℕ) → place < length sizes → sum (drop place sizes) ≡ get_or sizes place 0 + sum (drop (place + 1) sizes)
sum_from sizes place inside = sum_by-drop_more (λ n. n) sizes place 0 inside

-- with that sum in place of them
pub tiered_before : (sizes : List ℕ) (place : ℕ) → AreTiered (take (length sizes - 1) sizes) → All (λ size. 0 < size) sizes → place < length sizes
    → (0 < place → 2 * sum (drop place sizes) ≤ get_or sizes (place - 1) 0) → AreTiered (take place sizes ++ sum (drop place sizes) ∷ [])
tiered_before sizes place are each inside low =
    let size : length (take place sizes) ≡ place = length-take place sizes ∙ omega arith in
    let some = each place 0 inside in
    tiered_push (take place sizes) (sum (drop place sizes)) (tiered_front sizes place are inside) (omega (arith, sum_from sizes place inside, some))
    (λ more. let end : get_or (take place sizes) (length (take place sizes) - 1) 0 ≡ get_or sizes (place - 1) 0 = ap (λ n. get_or (take place sizes) (n - 1) 0) size ∙ get_or-take place sizes (place - 1) 0 (omega arith) in
    omega (arith, end, low (omega arith)))

-- with no more than that, if any
pub tiered_less : (xs : List ℕ) (n t : ℕ) → AreTiered (xs ++ n ∷ []) → t ≤ n → AreTiered (xs ++ some_size t)
tiered_less [] n t are less = go (none_or_one t)
  where
    go : (((t ≡ 0) × (some_size t ≡ [])) ⊎ ((0 < t) × (some_size t ≡ t ∷ []))) → AreTiered (some_size t)
    go (inl none) = subst AreTiered (sym none.1) tt
    go (inr one) = subst AreTiered (sym one.1) (omega (arith, one.0))
tiered_less (x ∷ []) n t are less = go (none_or_one t)
  where
    go : (((t ≡ 0) × (some_size t ≡ [])) ⊎ ((0 < t) × (some_size t ≡ t ∷ []))) → AreTiered (x ∷ some_size t)
    go (inl none) = subst (λ l. AreTiered (x ∷ l)) (sym none.1) (omega (arith, are.0, are.1))
    go (inr one) = subst (λ l. AreTiered (x ∷ l)) (sym one.1) (omega (arith, are.0, less), omega (arith, one.0))
tiered_less (x ∷ y ∷ xs) n t are less = (are.0, tiered_less (y ∷ xs) n t are.1 less)

-- where none is merged
pub tiered_whole : (sizes : List ℕ) (place : ℕ) → place + 1 ≡ length sizes → AreTiered (take place sizes ++ sum (drop place sizes) ∷ []) → AreTiered sizes
tiered_whole sizes place last are = subst AreTiered (whole sizes place last) are
  where
    whole : (xs : List ℕ) (k : ℕ) → k + 1 ≡ length xs → take k xs ++ sum (drop k xs) ∷ [] ≡ xs
    whole [] k last = absurd (omega arith)
    whole (x ∷ []) zero last = ap (λ n. n ∷ []) (omega arith)
    whole (x ∷ y ∷ xs) zero last = absurd (omega arith)
    whole (x ∷ xs) (suc k) last = ap (λ l. x ∷ l) (whole xs k (omega arith))

-- ---- one more behind them

tiered_each : (sizes : List ℕ) → AreTiered sizes → All (λ size. 0 < size) sizes
tiered_each [] are = All-nil (λ size. 0 < size)
tiered_each (n ∷ []) are = All-cons (λ size. 0 < size) n [] are (All-nil (λ size. 0 < size))
tiered_each (n ∷ m ∷ more) are =
    let rest = tiered_each (m ∷ more) are.1 in
    let some : 0 < m = All-head (λ size. 0 < size) m more rest in
    All-cons (λ size. 0 < size) n (m ∷ more) (omega (arith, are.0, some)) rest

pub some_each : (sizes : List ℕ) (t : ℕ) → AreTiered sizes → All (λ size. 0 < size) (sizes ++ some_size t)
some_each sizes t are = go (none_or_one t)
  where
    go : (((t ≡ 0) × (some_size t ≡ [])) ⊎ ((0 < t) × (some_size t ≡ t ∷ []))) → All (λ size. 0 < size) (sizes ++ some_size t)
    go (inl none) = subst (λ l. All (λ size. 0 < size) (sizes ++ l)) (sym none.1) (subst (All (λ size. 0 < size)) (sym (append-nil sizes)) (tiered_each sizes are))
    go (inr one) =
        subst (λ l. All (λ size. 0 < size) (sizes ++ l)) (sym one.1)
        (All-append (λ size. 0 < size) sizes (t ∷ []) (tiered_each sizes are) (All-cons (λ size. 0 < size) t [] one.0 (All-nil (λ size. 0 < size))))

pub tiered_but_last : (sizes : List ℕ) (t : ℕ) → AreTiered sizes → AreTiered (take (length (sizes ++ some_size t) - 1) (sizes ++ some_size t))
tiered_but_last sizes t are = go (none_or_one t)
  where
    go : (((t ≡ 0) × (some_size t ≡ [])) ⊎ ((0 < t) × (some_size t ≡ t ∷ []))) → AreTiered (take (length (sizes ++ some_size t) - 1) (sizes ++ some_size t))
    go (inl none) = subst (λ l. AreTiered (take (length l - 1) l)) (sym (ap (λ l. sizes ++ l) none.1 ∙ append-nil sizes)) (tiered_take (length sizes - 1) sizes are)
    go (inr one) =
        let size : length (sizes ++ t ∷ []) - 1 ≡ length sizes = omega (arith, length-append sizes (t ∷ [])) in
        subst (λ l. AreTiered (take (length l - 1) l)) (sym (ap (λ l. sizes ++ l) one.1))
        (subst AreTiered (sym (ap (λ n. take n (sizes ++ t ∷ [])) size ∙ take-append_seam sizes (t ∷ []))) are)
