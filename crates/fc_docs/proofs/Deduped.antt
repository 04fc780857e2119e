-- Whether a test finds an element is the same where equal elements were dropped.
use Rattle.std.proofs.Common.{◌≡◌, List, [], ◌∷◌, Bool, true, false, cond, ◌||◌, refl, sym, ◌∙◌, ap}
use Rattle.std.specs.List.{dedup, dedup_from, list_any}
use Rattle.std.proofs.Math.Bool.{or_self_left}

any_dedup_from : {X : Type 0} (same : X → X → Bool) (p : X → Bool) → ((x y : X) → same x y ≡ true → p x ≡ p y) → (k : X) (xs : List X) → list_any p (dedup_from same k xs) ≡ (p k || list_any p xs)
any_dedup_from same p alike k [] = refl
any_dedup_from same p alike k (x ∷ xs) = go (same x k) refl (any_dedup_from same p alike k xs) (any_dedup_from same p alike x xs)
  where
    go : (b : Bool) → same x k ≡ b → list_any p (dedup_from same k xs) ≡ (p k || list_any p xs) → list_any p (dedup_from same x xs) ≡ (p x || list_any p xs)
        → list_any p (cond b (dedup_from same k xs) (k ∷ dedup_from same x xs)) ≡ (p k || (p x || list_any p xs))
    go true is first next = first ∙ rw (alike x k is) (sym (or_self_left (p k) (list_any p xs)))
    go false is first next = ap (λ b. p k || b) next

pub any_dedup : {X : Type 0} (same : X → X → Bool) (p : X → Bool) → ((x y : X) → same x y ≡ true → p x ≡ p y) → (xs : List X) → list_any p (dedup same xs) ≡ list_any p xs
any_dedup same p alike [] = refl
any_dedup same p alike (x ∷ xs) = any_dedup_from same p alike x xs
