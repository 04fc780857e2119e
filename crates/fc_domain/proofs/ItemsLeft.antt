-- The members of a list that a loop goes over, as they are seen.
use Rattle.std.proofs.Common.{◌≡◌, ℕ, ◌+◌, ◌<◌, ◌≤◌, List, [], ◌∷◌, length, get_or, drop, map, All, sym, ap, ◌∙◌, subst, arith}
use Rattle.std.proofs.lemmas.List.{get_or-map, length-map, drop_more, drop_all}

pub fact_at : {X Y : Type 0} (P : Y → Type 0) (view : X → Y) (xs : List X) (i : ℕ) (x : X) → All P (map view xs) → i < length xs → x ≡ get_or xs i x → P (view x)
fact_at P view xs i x every within is = subst P (get_or-map view xs i x (view x) within ∙ ap view (sym is)) (every i (view x) (omega (arith, length-map xs view)))

pub next_left : {X Y : Type 0} (view : X → Y) (xs : List X) (i : ℕ) (x : X) → i < length xs → x ≡ get_or xs i x → map view (drop i xs) ≡ view x ∷ map view (drop (i + 1) xs)
next_left view xs i x within is = ap (map view) (drop_more xs i x within) ∙ ap (λ y. view y ∷ map view (drop (i + 1) xs)) (sym is)

pub none_left : {X Y : Type 0} (view : X → Y) (xs : List X) (i : ℕ) → length xs ≤ i → map view (drop i xs) ≡ []
none_left view xs i all = ap (map view) (drop_all i xs all)
