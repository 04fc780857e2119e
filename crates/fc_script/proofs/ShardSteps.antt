-- What one line does to the shards of a script.
use Rattle.std.proofs.Common.{◌≡◌, ℕ, zero, suc, ◌+◌, ◌-◌, ◌<◌, ◌≤◌, List, [], ◌∷◌, ◌++◌, map, replicate, length, get_or, set, Result, Ok, Err, refl, ◌∙◌, ap, append_assoc, arith}
use Rattle.std.specs.Prelude.{OnOk}
use Rattle.std.proofs.lemmas.List.{map-append}
use Rattle.fc_script.specs.Gathered.{ShardSoFar, changed_at, with_commit}

-- what follows where nothing is wanting
pub on_ok : {A E : Type 0} (r : Result A E) (P Q : Type 0) → (P → Q) → OnOk r P → OnOk r Q
on_ok (Ok a) P Q so holds = so holds
on_ok (Err e) P Q so holds = tt

-- one of them
pub changed : {X Y : Type 0} (see : X → Y) (f : Y → Y) (xs : List X) (i : ℕ) (d new : X) → i < length xs → see new ≡ f (see (get_or xs i d)) → map see (set xs i new) ≡ changed_at f i (map see xs)
changed see f [] i d new within step = absurd (omega arith)
changed see f (x ∷ xs) zero d new within step = ap (λ y. y ∷ map see xs) step
changed see f (x ∷ xs) (suc i) d new within step = ap (λ ys. see x ∷ ys) (changed see f xs i d new (omega (arith, within)) step)

-- those from place i on committed
abbrev pub committed_from : ℕ → List ShardSoFar → List ShardSoFar
committed_from zero xs = map with_commit xs
committed_from (suc i) [] = []
committed_from (suc i) (x ∷ xs) = x ∷ committed_from i xs

pub committed_from-next : {X : Type 0} (see : X → ShardSoFar) (xs : List X) (i : ℕ) (d new : X) → i < length xs → see new ≡ with_commit (see (get_or xs i d)) → committed_from (suc i) (map see (set xs i new)) ≡ committed_from i (map see xs)
committed_from-next see [] i d new within step = absurd (omega arith)
committed_from-next see (x ∷ xs) zero d new within step = ap (λ y. y ∷ map with_commit (map see xs)) step
committed_from-next see (x ∷ xs) (suc i) d new within step = ap (λ ys. see x ∷ ys) (committed_from-next see xs i d new (omega (arith, within)) step)

pub committed_from-end : (n : ℕ) (xs : List ShardSoFar) → length xs ≤ n → committed_from n xs ≡ xs
committed_from-end zero [] none = refl
committed_from-end zero (x ∷ xs) none = absurd (omega arith)
committed_from-end (suc n) [] none = refl
committed_from-end (suc n) (x ∷ xs) none = ap (λ ys. x ∷ ys) (committed_from-end n xs (omega (arith, none)))

-- one more at the end, and one less to come
pub replicate-next : {X Y : Type 0} (see : X → Y) (xs : List X) (x : X) (y : Y) (count n : ℕ) → n < count → see x ≡ y → map see (xs ++ x ∷ []) ++ replicate (count - (n + 1)) y ≡ map see xs ++ replicate (count - n) y
replicate-next see xs x y count n below is =
    let one : suc (count - (n + 1)) ≡ count - n = omega arith in
    ap (λ ys. ys ++ replicate (count - (n + 1)) y) (map-append see xs (x ∷ []))
    ∙ append_assoc (map see xs) (see x ∷ []) (replicate (count - (n + 1)) y)
    ∙ ap (λ z. map see xs ++ z ∷ replicate (count - (n + 1)) y) is
    ∙ ap (λ k. map see xs ++ replicate k y) one
