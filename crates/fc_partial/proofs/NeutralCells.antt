-- Cells of no document.
use Rattle.std.proofs.Common.{◌≡◌, ℕ, zero, suc, ◌*◌, List, [], ◌∷◌, ◌++◌, length, refl, sym, ◌∙◌, ap, arith, length-append}
use Rattle.std.specs.List.{AllByRecursion}
use Rattle.std.specs.Prelude.{replicate}
use Rattle.std.proofs.Math.Nat.{zero-mul, suc-mul}
use Rattle.std.proofs.lemmas.List.{take_at, drop_at}
use Rattle.fc_spec.specs.documents.World.{Place}
use Rattle.fc_spec.specs.requests.Request.{Stat}
use Rattle.fc_spec.specs.requests.Statistics.{StatValue, stats_over}
use Rattle.fc_spec.proofs.messages.ShapedStatistics.{values_fit-stats_over}
use Rattle.fc_partial.specs.Adding.{HasShape}
use Rattle.fc_partial.specs.CellsView.{rows_of}

-- the same values so many times
abbrev pub copies : {X : Type 0} → ℕ → List X → List X
copies zero xs = []
copies (suc n) xs = xs ++ copies n xs

pub length-copies : {X : Type 0} (n : ℕ) (xs : List X) → length (copies n xs) ≡ n * length xs
length-copies zero xs = sym (zero-mul (length xs))
length-copies (suc n) xs = length-append xs (copies n xs) ∙ omega (arith, length-copies n xs, suc-mul n (length xs))

pub rows-copies : (n w : ℕ) (vs : List StatValue) → length vs ≡ w → rows_of w (replicate n 0) (copies n vs) ≡ replicate n (record { count = 0; values = vs })
rows-copies zero w vs e = refl
rows-copies (suc n) w vs e =
    λ i. record { count = 0; values = take_at vs (copies n vs) w e i } ∷ (ap (rows_of w (replicate n 0)) (drop_at vs (copies n vs) w e) ∙ rows-copies n w vs e) i

-- statistics of places have their shape
pub shape_over : (ss : List Stat) (X : List Place) → HasShape ss (stats_over ss X)
shape_over ss X = values_fit-stats_over ss X

pub every_replicate : {X : Type 0} (P : X → Type 0) (n : ℕ) (x : X) → P x → AllByRecursion P (replicate n x)
every_replicate P zero x p = tt
every_replicate P (suc n) x p = (p, every_replicate P n x p)
