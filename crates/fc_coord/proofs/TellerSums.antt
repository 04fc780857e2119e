-- What different shards told of a bucket is no more than what all who told it did.
use Rattle.std.proofs.Common.{◌≡◌, ℕ, zero, suc, ◌+◌, ◌<◌, ◌≤◌, ◌^◌, ℤ, pos, ◌+ℤ◌, List, [], ◌∷◌, Bool, true, false, cond, ◌==◌, Option, None, Some, refl, ◌∙◌, ap, arith}
use Rattle.std.specs.Prelude.{option_map, slice_index_or, sum_by, unsigned_abs}
use Rattle.std.specs.List.{AllByRecursion}
use Rattle.std.proofs.lemmas.Bool.{eqb-true}
use Rattle.std.proofs.lemmas.Int.{ints}
use Rattle.std.proofs.lemmas.List.Sums.{sum_by-cons}
use Rattle.std.proofs.lemmas.Map.Keys.{IsDistinct-head, IsDistinct-tail}
use Rattle.fc_spec.specs.requests.Request.{StatKind, sum, min, max, countvals, missing}
use Rattle.fc_spec.specs.requests.Statistics.{StatValue, number, extreme, Stats, amount, value_over, combined_value}
use Rattle.fc_spec.specs.laws.SumsLaw.{size_of}
use Rattle.fc_spec.specs.messages.Message.{Step}
use Rattle.fc_reading.specs.Distinct.{AreDistinct}
use Rattle.fc_told.specs.Telling.{TellersFit}
use Rattle.fc_told.specs.Trees.{Teller, Tree, tellers_in, child, teller_of, stats_told}
use Rattle.fc_coord.specs.TreeReading.{told_count, count_told}

-- ---- the sums of a number of each teller

module _ (f : Stats → ℕ) where
  -- that of what a shard told
  abbrev pub of_told : Option Stats → ℕ
  of_told None = 0
  of_told (Some stats) = f stats

  abbrev pub of_teller : Option Teller → ℕ
  of_teller o = of_told (option_map (λ t. t.stats) o)

  -- over shards
  unfoldable pub over_shards : List Teller → List ℕ → ℕ
  over_shards ts [] = 0
  over_shards ts (i ∷ H) = of_teller (teller_of i ts) + over_shards ts H

  -- c for each shard that is s
  abbrev once : ℕ → ℕ → List ℕ → ℕ
  once s c [] = 0
  once s c (i ∷ H) = cond (s == i) c 0 + once s c H

  once_none : (s i c : ℕ) (H : List ℕ) → s ≡ i → AllByRecursion (λ j. (i == j) ≡ false) H → once s c H ≡ 0
  once_none s i c [] e a = refl
  once_none s i c (j ∷ H) e a = (λ k. cond (e k == j) c 0 + once s c H) ∙ (λ k. cond (a.0 k) c 0 + once_none s i c H e a.1 k)

  once_bounded : (s c : ℕ) (H : List ℕ) → AreDistinct H → once s c H ≤ c
  once_bounded s c [] d = omega arith
  once_bounded s c (i ∷ H) d = go (s == i) refl (once_bounded s c H (IsDistinct-tail ◌==◌ i H d))
    where
      go : (b : Bool) → (s == i) ≡ b → once s c H ≤ c → cond b c 0 + once s c H ≤ c
      go true e ih = let z = once_none s i c H (eqb-true s i e) (IsDistinct-head ◌==◌ i H d) in omega arith
      go false e ih = omega arith

  nobody : (H : List ℕ) → over_shards [] H ≡ 0
  unfolding over_shards
  nobody [] = refl
  nobody (i ∷ H) = let e = nobody H in omega arith

  one_more : (t : Teller) (ts : List Teller) (i : ℕ) → of_teller (teller_of i (t ∷ ts)) ≤ cond (t.shard == i) (f t.stats) 0 + of_teller (teller_of i ts)
  one_more t ts i = go (t.shard == i)
    where
      go : (b : Bool) → of_teller (cond b (Some t) (teller_of i ts)) ≤ cond b (f t.stats) 0 + of_teller (teller_of i ts)
      go true = omega arith
      go false = omega arith

  more_shards : (t : Teller) (ts : List Teller) (H : List ℕ) → over_shards (t ∷ ts) H ≤ once t.shard (f t.stats) H + over_shards ts H
  unfolding over_shards
  more_shards t ts [] = omega arith
  more_shards t ts (i ∷ H) = let a = one_more t ts i in let b = more_shards t ts H in omega arith

  pub bounded : (ts : List Teller) (H : List ℕ) → AreDistinct H → over_shards ts H ≤ sum_by (λ t. f t.stats) ts
  bounded [] H d = let e = nobody H in omega arith
  bounded (t ∷ ts) H d =
      let a = more_shards t ts H in
      let b = once_bounded t.shard (f t.stats) H d in
      let e = bounded ts H d in
      let s = sum_by-cons (λ (u : Teller). f u.stats) t ts in
      omega arith

-- ---- counts

abbrev count_of : Stats → ℕ
count_of stats = stats.count

counts_are : (H : List ℕ) (T : Tree) → count_told H T ≡ over_shards count_of (tellers_in T) H
unfolding over_shards
counts_are [] T = refl
counts_are (i ∷ H) T = ap (λ n. told_count (stats_told i T) + n) (counts_are H T) ∙ ap (λ n. n + over_shards count_of (tellers_in T) H) (same (teller_of i (tellers_in T)))
  where
    same : (o : Option Teller) → told_count (option_map (λ t. t.stats) o) ≡ of_teller count_of o
    same None = refl
    same (Some t) = refl

pub count_bounded : (T : Tree) (H : List ℕ) → TellersFit T → AreDistinct H → count_told H T < 2 ^ 64
count_bounded T H fit d = let a = counts_are H T in let b = bounded count_of (tellers_in T) H d in let c = fit.counts [] in omega arith

-- ---- the sizes of statistics

size_amount : (v : StatValue) → unsigned_abs (amount v) ≡ size_of v
size_amount (number n) = refl
size_amount (extreme o) = refl

abs_add : (a b : ℤ) → unsigned_abs (a +ℤ b) ≤ unsigned_abs a + unsigned_abs b
abs_add a b = omega (arith, ints)

size_sum : (a b : StatValue) → size_of (number (amount a +ℤ amount b)) ≤ size_of a + size_of b
size_sum a b = let e = abs_add (amount a) (amount b) in let f = size_amount a in let g = size_amount b in omega arith

pub size_combined : (k : StatKind) (a b : StatValue) → size_of (combined_value k a b) ≤ size_of a + size_of b
size_combined sum a b = size_sum a b
size_combined min a b = omega arith
size_combined max a b = omega arith
size_combined countvals a b = size_sum a b
size_combined missing a b = size_sum a b

pub size_neutral : (k : StatKind) (f : ℕ) → size_of (value_over (record { of = k; field = f }) []) ≡ 0
size_neutral sum f = refl
size_neutral min f = refl
size_neutral max f = refl
size_neutral countvals f = refl
size_neutral missing f = refl

pub size_or : (vs : List StatValue) (m : ℕ) (d e : StatValue) → size_of d ≡ size_of e → size_of (slice_index_or vs m d) ≡ size_of (slice_index_or vs m e)
size_or [] m d e h = h
size_or (v ∷ vs) zero d e h = refl
size_or (v ∷ vs) (suc m) d e h = size_or vs m d e h

-- of one of its statistics
abbrev pub size_in : ℕ → Stats → ℕ
size_in m stats = size_of (slice_index_or stats.values m (number (pos 0)))

-- ---- places

-- one step further in they fit too
pub child_fits : (s : Step) (T : Tree) → TellersFit T → TellersFit (child s T)
child_fits s T fit = record { counts = λ way. fit.counts (s ∷ way); sizes = λ m way. fit.sizes m (s ∷ way) }
