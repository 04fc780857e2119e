-- The places of the messages that are not there yet.
use Rattle.std.proofs.Common.{◌≡◌, ℕ, zero, suc, ◌+◌, ◌<◌, List, [], ◌∷◌, length, drop, get_or, Bool, true, false, refl, sym, ap, arith}
use Rattle.std.specs.Prelude.{slice_set}
use Rattle.std.specs.List.{remove}
use Rattle.std.proofs.lemmas.Bool.{false≢true}
use Rattle.fc_round.specs.Waiting.{untold_from}

-- ---- one place after the other

pub untold_step : (told : List Bool) (i k : ℕ) (d : Bool) → k < length told → get_or told k d ≡ false → untold_from i (drop k told) ≡ i ∷ untold_from (suc i) (drop (suc k) told)
untold_step [] i k d there e = absurd (omega (arith, there))
untold_step (true ∷ told) i zero d there e = absurd (false≢true (sym e))
untold_step (false ∷ told) i zero d there e = refl
untold_step (b ∷ told) i (suc k) d there e = untold_step told i k d (omega (arith, there)) e

pub told_step : (told : List Bool) (i k : ℕ) (d : Bool) → k < length told → get_or told k d ≡ true → untold_from i (drop k told) ≡ untold_from (suc i) (drop (suc k) told)
told_step [] i k d there e = absurd (omega (arith, there))
told_step (true ∷ told) i zero d there e = refl
told_step (false ∷ told) i zero d there e = absurd (false≢true e)
told_step (b ∷ told) i (suc k) d there e = told_step told i k d (omega (arith, there)) e

-- ---- each of them

-- it is a place of the list, and its message is not there
pub record IsUntold (told : List Bool) (i place : ℕ) : Type 0 where
  pub at : ℕ
  pub place_is : place ≡ i + at
  pub there : at < length told
  pub waits : (d : Bool) → get_or told at d ≡ false

pub untold_at : (told : List Bool) (i k d : ℕ) → k < length (untold_from i told) → IsUntold told i (get_or (untold_from i told) k d)
untold_at [] i k d there = absurd (omega (arith, there))
untold_at (true ∷ told) i k d there = let own = untold_at told (suc i) k d there in record { at = suc own.at; place_is = (let is = own.place_is in omega (arith, is)); there = (let below = own.there in omega (arith, below)); waits = own.waits }
untold_at (false ∷ told) i zero d there = record { at = 0; place_is = omega arith; there = omega arith; waits = λ e. refl }
untold_at (false ∷ told) i (suc k) d there = let own = untold_at told (suc i) k d (omega (arith, there)) in record { at = suc own.at; place_is = (let is = own.place_is in omega (arith, is)); there = (let below = own.there in omega (arith, below)); waits = own.waits }

-- where there is none, each message is there
pub none_untold : (told : List Bool) (i k : ℕ) (d : Bool) → length (untold_from i told) ≡ 0 → k < length told → get_or told k d ≡ true
none_untold [] i k d none there = absurd (omega (arith, there))
none_untold (false ∷ told) i k d none there = absurd (omega (arith, none))
none_untold (true ∷ told) i zero d none there = refl
none_untold (true ∷ told) i (suc k) d none there = none_untold told (suc i) k d none (omega (arith, there))

-- ---- one of them is told

-- the others are left, in their order
removed_from : (told : List Bool) (i k at d : ℕ) → k < length (untold_from i told) → get_or (untold_from i told) k d ≡ i + at → untold_from i (slice_set told at true) ≡ remove (untold_from i told) k
removed_from [] i k at d there is = absurd (omega (arith, there))
removed_from (true ∷ told) i k zero d there is = let own = (untold_at told (suc i) k d there).place_is in absurd (omega (arith, own, is))
removed_from (true ∷ told) i k (suc at) d there is = removed_from told (suc i) k at d there (omega (arith, is))
removed_from (false ∷ told) i zero zero d there is = refl
removed_from (false ∷ told) i zero (suc at) d there is = absurd (omega (arith, is))
removed_from (false ∷ told) i (suc k) zero d there is = let own = (untold_at told (suc i) k d (omega (arith, there))).place_is in absurd (omega (arith, own, is))
removed_from (false ∷ told) i (suc k) (suc at) d there is = ap (λ places. i ∷ places) (removed_from told (suc i) k at d (omega (arith, there)) (omega (arith, is)))

pub removed_at : (told : List Bool) (k d : ℕ) → k < length (untold_from 0 told) → untold_from 0 (slice_set told (get_or (untold_from 0 told) k d) true) ≡ remove (untold_from 0 told) k
removed_at told k d there = removed_from told 0 k (get_or (untold_from 0 told) k d) d there (omega arith)
