-- Over the shards that told a bucket the counts and the statistics are those over all the shards.
use Rattle.std.proofs.Common.{◌≡◌, ℕ, zero, suc, ◌+◌, ◌<◌, ◌≤◌, ◌^◌, pos, List, [], ◌∷◌, drop, get_or, length, map, Option, None, Some, refl, sym, ◌∙◌, ap, arith}
use Rattle.std.specs.Prelude.{option_map, slice_index_or}
use Rattle.std.proofs.lemmas.Int.{ints}
use Rattle.fc_spec.specs.requests.Request.{Stat, StatKind, sum, min, max, countvals, missing}
use Rattle.fc_spec.specs.requests.Statistics.{number, Stats, value_over, combined_value}
use Rattle.fc_spec.specs.laws.SumsLaw.{size_of}
use Rattle.fc_partial.specs.StatsView.{stats_view}
use Rattle.fc_partial.specs.declared.statistics.Stats.{Stats as Told}
use Rattle.fc_reading.specs.Distinct.{AreDistinct}
use Rattle.fc_told.specs.Telling.{TellersFit}
use Rattle.std.specs.Borrow.{Bor}
use Rattle.fc_told.specs.Trees.{Teller, Tree, nothing, tellers_in, teller_of, stats_told}
use Rattle.fc_coord.specs.TreeReading.{told_count, told_value, count_told, value_told, with_told, told_on, counts_of, sizes_of, values_of}
use Rattle.fc_coord.proofs.TellerSums.{of_teller, over_shards, bounded, size_in, size_combined, size_neutral, size_or, count_bounded}

-- what was told, as the definition has it
abbrev pub seen : Bor Told → Stats
seen t = stats_view t.now

-- where nobody told
pub untold_on : (H : List ℕ) → told_on H nothing ≡ []
untold_on [] = refl
untold_on (i ∷ H) = untold_on H

-- ---- counts

pub counts_over : (H : List ℕ) (T : Tree) → count_told H T ≡ counts_of (told_on H T)
counts_over [] T = refl
counts_over (i ∷ H) T = go (stats_told i T) (counts_over H T)
  where
    go : (o : Option Stats) → count_told H T ≡ counts_of (told_on H T) → told_count o + count_told H T ≡ counts_of (with_told o (told_on H T))
    go None rest = (let same : 0 + count_told H T ≡ count_told H T = omega arith in same) ∙ rest
    go (Some stats) rest = ap (λ n. stats.count + n) rest

pub counts_fit : (T : Tree) (H : List ℕ) → TellersFit T → AreDistinct H → counts_of (told_on H T) < 2 ^ 64
counts_fit T H fit d = let a = counts_over H T in let b = count_bounded T H fit d in omega arith

-- ---- statistics

neutral_left : (k : StatKind) (f m : ℕ) (told : List Stats) → combined_value k (value_over (record { of = k; field = f }) []) (values_of m (record { of = k; field = f }) told) ≡ values_of m (record { of = k; field = f }) told
neutral_left sum f m [] = refl
neutral_left sum f m (stats ∷ rest) = ap number (omega (arith, ints))
neutral_left min f m [] = refl
neutral_left min f m (stats ∷ rest) = refl
neutral_left max f m [] = refl
neutral_left max f m (stats ∷ rest) = refl
neutral_left countvals f m [] = refl
neutral_left countvals f m (stats ∷ rest) = ap number (omega (arith, ints))
neutral_left missing f m [] = refl
neutral_left missing f m (stats ∷ rest) = ap number (omega (arith, ints))

pub values_over : (m : ℕ) (s : Stat) (H : List ℕ) (T : Tree) → value_told m s H T ≡ values_of m s (told_on H T)
values_over m s [] T = refl
values_over m s (i ∷ H) T = go (stats_told i T) (values_over m s H T)
  where
    go : (o : Option Stats) → value_told m s H T ≡ values_of m s (told_on H T) → combined_value s.of (told_value m s o) (value_told m s H T) ≡ values_of m s (with_told o (told_on H T))
    go None rest = ap (combined_value s.of (value_over s [])) rest ∙ neutral_left s.of s.field m (told_on H T)
    go (Some stats) rest = ap (combined_value s.of (slice_index_or stats.values m (value_over s []))) rest

-- ---- their sizes

sizes_over : (m : ℕ) (H : List ℕ) (T : Tree) → sizes_of m (told_on H T) ≡ over_shards (size_in m) (tellers_in T) H
unfolding over_shards
sizes_over m [] T = refl
sizes_over m (i ∷ H) T = go (teller_of i (tellers_in T)) (sizes_over m H T)
  where
    go : (o : Option Teller) → sizes_of m (told_on H T) ≡ over_shards (size_in m) (tellers_in T) H → sizes_of m (with_told (option_map (λ t. t.stats) o) (told_on H T)) ≡ of_teller (size_in m) o + over_shards (size_in m) (tellers_in T) H
    go None rest = rest ∙ (let same : over_shards (size_in m) (tellers_in T) H ≡ 0 + over_shards (size_in m) (tellers_in T) H = omega arith in same)
    go (Some t) rest = ap (λ n. size_in m t.stats + n) rest

pub sizes_fit : (T : Tree) (H : List ℕ) → TellersFit T → AreDistinct H → (m : ℕ) → sizes_of m (told_on H T) < 2 ^ 63
sizes_fit T H fit d m = let a = sizes_over m H T in let b = bounded (size_in m) (tellers_in T) H d in let c = fit.sizes m [] in omega arith

pub size_bounded : (m : ℕ) (s : Stat) (told : List Stats) → size_of (values_of m s told) ≤ sizes_of m told
size_bounded m s [] = let e = size_neutral s.of s.field in omega arith
size_bounded m s (stats ∷ rest) =
    let a = size_combined s.of (slice_index_or stats.values m (value_over s [])) (values_of m s rest) in
    let b = size_or stats.values m (value_over s []) (number (pos 0)) (size_neutral s.of s.field) in
    let c = size_bounded m s rest in
    omega arith

-- those behind a place are no more
sizes_behind : (m : ℕ) (told : List Stats) (k : ℕ) → sizes_of m (drop k told) ≤ sizes_of m told
sizes_behind m told zero = omega arith
sizes_behind m [] (suc k) = omega arith
sizes_behind m (stats ∷ rest) (suc k) = let a = sizes_behind m rest k in omega arith

-- what stands at a place, before those behind it
pub told_first : (told : List (Bor Told)) (k : ℕ) (stats : Bor Told) → k < length told → stats ≡ get_or told k stats → drop k (map seen told) ≡ stats_view stats.now ∷ drop (suc k) (map seen told)
told_first [] k stats less at = absurd (omega arith)
told_first (t ∷ ts) zero stats less at = ap (λ (u : Bor Told). stats_view u.now ∷ map seen ts) (sym at)
told_first (t ∷ ts) (suc k) stats less at = told_first ts k stats (omega arith) at

pub size_next : (m : ℕ) (s : Stat) (told : List Stats) (k : ℕ) (stats : Stats) → drop k told ≡ stats ∷ drop (suc k) told → size_of (slice_index_or stats.values m (value_over s [])) + size_of (values_of m s (drop (suc k) told)) ≤ sizes_of m told
size_next m s told k stats first =
    let a = size_or stats.values m (value_over s []) (number (pos 0)) (size_neutral s.of s.field) in
    let b = size_bounded m s (drop (suc k) told) in
    let c = sizes_behind m told k in
    let d = ap (sizes_of m) first in
    omega arith
