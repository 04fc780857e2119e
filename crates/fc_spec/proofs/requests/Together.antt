-- The parts of a set of places on different shards, taken together.
use Rattle.std.proofs.Common.{◌≡◌, ℕ, zero, suc, ◌+◌, ◌<◌, List, [], ◌∷◌, length, Bool, true, false, cond, ◌==◌, refl, sym, ◌∙◌, ap, arith}
use Rattle.std.specs.List.{filter, list_any, range_with_len, slice_index_or}
use Rattle.std.proofs.Math.Bool.{or-false}
use Rattle.std.proofs.lemmas.Bool.{false≢true, eqb-true, ne_eqb, or_from, or_parts}
use Rattle.fc_spec.specs.words.Lists.{numbers_below}
use Rattle.fc_spec.specs.documents.World.{Place, on_shards}
use Rattle.fc_spec.specs.requests.Request.{Stat}
use Rattle.fc_spec.specs.requests.Statistics.{value_over, stats_over, combined_value}
use Rattle.fc_spec.specs.requests.Combining.{combined}
use Rattle.fc_spec.proofs.documents.Shards.{is_on}
use Rattle.fc_spec.proofs.requests.StatisticsOfParts.{stats_over_parts}
use Rattle.fc_spec.proofs.messages.HeldAnswers.{part}

-- no number stands twice
abbrev pub IsDistinct : List ℕ → Type 0
IsDistinct [] = Unit {0}
IsDistinct (i ∷ H) = (list_any (λ j. j == i) H ≡ false) × IsDistinct H

-- the statistics of the part on one more shard
pub stats_on_more : (ss : List Stat) (i : ℕ) (H : List ℕ) (S : List Place) → list_any (λ j. j == i) H ≡ false → stats_over ss (on_shards (i ∷ H) S) ≡ combined ss (stats_over ss (part i S)) (stats_over ss (on_shards H S))
stats_on_more ss i H S apart =
    stats_over_parts ss (λ x. i == x.shard) (is_on H) disjoint S ∙ sym (λ k. combined ss (stats_over ss (filter (λ x. or-false (i == x.shard) k) S)) (stats_over ss (on_shards H S)))
  where
    disjoint : (x : Place) → (i == x.shard) ≡ true → is_on H x ≡ true → ⊥
    disjoint x e on = false≢true (sym apart ∙ ap (λ s. list_any (λ j. j == s) H) (eqb-true i x.shard e) ∙ on)

-- its count
pub length-on_more : (i : ℕ) (H : List ℕ) (S : List Place) → list_any (λ j. j == i) H ≡ false → length (on_shards (i ∷ H) S) ≡ length (part i S) + length (on_shards H S)
length-on_more i H S apart = ap (λ st. st.count) (stats_on_more [] i H S apart)

-- a statistic of it
pub value_on_more : (s : Stat) (i : ℕ) (H : List ℕ) (S : List Place) → list_any (λ j. j == i) H ≡ false → value_over s (on_shards (i ∷ H) S) ≡ combined_value s.of (value_over s (part i S)) (value_over s (on_shards H S))
value_on_more s i H S apart = ap (λ st. slice_index_or st.values 0 (value_over s [])) (stats_on_more (s ∷ []) i H S apart)

pub on_no_shard : (S : List Place) → on_shards [] S ≡ []
on_no_shard [] = refl
on_no_shard (x ∷ xs) = on_no_shard xs

none_left : (q : ℕ → Bool) (i : ℕ) (K : List ℕ) → list_any (λ j. j == i) K ≡ false → list_any (λ j. j == i) (filter q K) ≡ false
none_left q i [] h = refl
none_left q i (k ∷ K) h = let parts = or_parts (k == i) (list_any (λ j. j == i) K) h in go (q k) parts.0 (none_left q i K parts.1)
  where
    go : (b : Bool) → (k == i) ≡ false → list_any (λ j. j == i) (filter q K) ≡ false → list_any (λ j. j == i) (cond b (k ∷ filter q K) (filter q K)) ≡ false
    go true e ih = or_from (k == i) (list_any (λ j. j == i) (filter q K)) e ih
    go false e ih = ih

-- what a test leaves of different numbers is different
pub distinct-filter : (q : ℕ → Bool) (H : List ℕ) → IsDistinct H → IsDistinct (filter q H)
distinct-filter q [] d = tt
distinct-filter q (i ∷ H) d = go (q i) (distinct-filter q H d.1)
  where
    go : (b : Bool) → IsDistinct (filter q H) → IsDistinct (cond b (i ∷ filter q H) (filter q H))
    go true ih = (none_left q i H d.0, ih)
    go false ih = ih

above_start : (n a b : ℕ) → a < b → list_any (λ j. j == a) (range_with_len b n) ≡ false
above_start zero a b h = refl
above_start (suc n) a b h = or_from (b == a) (list_any (λ j. j == a) (range_with_len (b + 1) n)) (ne_eqb b a (λ e. omega arith)) (above_start n a (b + 1) (omega arith))

distinct_range : (n a : ℕ) → IsDistinct (range_with_len a n)
distinct_range zero a = tt
distinct_range (suc n) a = (above_start n a (a + 1) (omega arith), distinct_range n (a + 1))

-- the numbers below another are different
pub distinct_numbers : (n : ℕ) → IsDistinct (numbers_below n)
distinct_numbers n = distinct_range n 0
