-- Sums that stay below the end of 64 bits.
use Rattle.std.proofs.Common.{◌≡◌, ℕ, zero, suc, ◌+◌, ◌<◌, ◌^◌, pos, List, [], ◌∷◌, arith}
use Rattle.std.specs.Prelude.{slice_index_or}
use Rattle.fc_spec.specs.requests.Statistics.{StatValue, number}
use Rattle.fc_spec.specs.laws.SumsLaw.{size_of}
use Rattle.fc_told.specs.Adding.{sum_of, sizes_added}

pub sum_within : (a b : ℕ) → a + b < 2 ^ 64 → sum_of a b ≡ a + b
sum_within a b h = omega arith

pub size_within : (m : ℕ) (zs : List ℕ) (vs : List StatValue) → slice_index_or zs m 0 + size_of (slice_index_or vs m (number (pos 0))) < 2 ^ 63
    → slice_index_or (sizes_added zs vs) m 0 ≡ slice_index_or zs m 0 + size_of (slice_index_or vs m (number (pos 0)))
size_within m zs [] h = omega arith
size_within zero [] (v ∷ vs) h = sum_within 0 (size_of v) (omega arith)
size_within (suc m) [] (v ∷ vs) h = size_within m [] vs h
size_within zero (z ∷ zs) (v ∷ vs) h = sum_within z (size_of v) (omega arith)
size_within (suc m) (z ∷ zs) (v ∷ vs) h = size_within m zs vs h
