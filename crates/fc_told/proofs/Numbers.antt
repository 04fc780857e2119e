-- The test of a bucket's numbers says that its sums stay within their bounds.
use Rattle.std.proofs.Common.{◌≡◌, ℕ, zero, suc, ◌+◌, ◌<◌, ◌^◌, pos, List, [], ◌∷◌, true, refl, arith}
use Rattle.std.specs.Prelude.{slice_index_or, nat_lt}
use Rattle.std.proofs.lemmas.Bool.{and_parts, and_from, ltb-true, lt-ltb}
use Rattle.fc_spec.specs.requests.Statistics.{StatValue, number, Stats}
use Rattle.fc_spec.specs.laws.SumsLaw.{size_of}
use Rattle.fc_told.specs.Trees.{Tree, count_in, sizes_in}
use Rattle.fc_told.specs.Fitting.{sizes_fit, numbers_fit}

abbrev pub size_at : ℕ → List StatValue → ℕ
size_at m vs = size_of (slice_index_or vs m (number (pos 0)))

sizes_fit_at : (m : ℕ) (zs : List ℕ) (vs : List StatValue) → slice_index_or zs m 0 < 2 ^ 63 → sizes_fit zs vs ≡ true → slice_index_or zs m 0 + size_at m vs < 2 ^ 63
sizes_fit_at m zs [] alone h = omega arith
sizes_fit_at zero [] (v ∷ vs) alone h = let here = ltb-true (size_of v) (2 ^ 63) (and_parts (nat_lt (size_of v) (2 ^ 63)) (sizes_fit [] vs) h).0 in omega arith
sizes_fit_at (suc m) [] (v ∷ vs) alone h = sizes_fit_at m [] vs (omega arith) (and_parts (nat_lt (size_of v) (2 ^ 63)) (sizes_fit [] vs) h).1
sizes_fit_at zero (z ∷ zs) (v ∷ vs) alone h = ltb-true (z + size_of v) (2 ^ 63) (and_parts (nat_lt (z + size_of v) (2 ^ 63)) (sizes_fit zs vs) h).0
sizes_fit_at (suc m) (z ∷ zs) (v ∷ vs) alone h = sizes_fit_at m zs vs alone (and_parts (nat_lt (z + size_of v) (2 ^ 63)) (sizes_fit zs vs) h).1

sizes_fit_from : (zs : List ℕ) (vs : List StatValue) → ((m : ℕ) → slice_index_or zs m 0 + size_at m vs < 2 ^ 63) → sizes_fit zs vs ≡ true
sizes_fit_from zs [] h = refl
sizes_fit_from [] (v ∷ vs) h = let here = h 0 in and_from (nat_lt (size_of v) (2 ^ 63)) (sizes_fit [] vs) (lt-ltb (size_of v) (2 ^ 63) (omega arith)) (sizes_fit_from [] vs (λ m. h (suc m)))
sizes_fit_from (z ∷ zs) (v ∷ vs) h = and_from (nat_lt (z + size_of v) (2 ^ 63)) (sizes_fit zs vs) (lt-ltb (z + size_of v) (2 ^ 63) (h 0)) (sizes_fit_from zs vs (λ m. h (suc m)))

pub count_within : (T : Tree) (stats : Stats) → numbers_fit T stats ≡ true → count_in T + stats.count < 2 ^ 64
count_within T stats h = ltb-true (count_in T + stats.count) (2 ^ 64) (and_parts (nat_lt (count_in T + stats.count) (2 ^ 64)) (sizes_fit (sizes_in T) stats.values) h).0

pub sizes_within : (m : ℕ) (T : Tree) (stats : Stats) → slice_index_or (sizes_in T) m 0 < 2 ^ 63 → numbers_fit T stats ≡ true → slice_index_or (sizes_in T) m 0 + size_at m stats.values < 2 ^ 63
sizes_within m T stats alone h = sizes_fit_at m (sizes_in T) stats.values alone (and_parts (nat_lt (count_in T + stats.count) (2 ^ 64)) (sizes_fit (sizes_in T) stats.values) h).1

pub numbers_from : (T : Tree) (stats : Stats) → count_in T + stats.count < 2 ^ 64 → ((m : ℕ) → slice_index_or (sizes_in T) m 0 + size_at m stats.values < 2 ^ 63) → numbers_fit T stats ≡ true
numbers_from T stats c z = and_from (nat_lt (count_in T + stats.count) (2 ^ 64)) (sizes_fit (sizes_in T) stats.values) (lt-ltb (count_in T + stats.count) (2 ^ 64) c) (sizes_fit_from (sizes_in T) stats.values z)
