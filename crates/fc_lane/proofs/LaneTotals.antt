-- The sum of signed lanes wraps on the way, and is exact all the same where no sum on the way is large.
use Rattle.std.proofs.Common.{◌≡◌, ℕ, ℤ, ◌+◌, ◌%◌, ◌^◌, ◌<◌, ◌≤◌, ◌+ℤ◌, List, [], ◌∷◌, map, sum_by, sym, ap, ◌∙◌, subst, arith, w64, of_z, to_z, mod-lt, lit<}
use Rattle.std.specs.Prelude.{nat_abs}
use Rattle.std.specs.Int.{int_wrap}
use Rattle.std.specs.Simd.Lanes.{fold_l}
use Rattle.std.proofs.lemmas.Int.{ints, int_wrap_fits, wrapping_add_onto}
use Rattle.std.proofs.lemmas.List.Sums.{sum_by-cons}
use Rattle.fc_spec.specs.requests.Statistics.{total_of}
use Rattle.fc_spec.specs.scripts.ScriptTotals.{total_limit}
use Rattle.fc_lane.proofs.PickedTotals.{small_fits}

-- the bits m of what is there already
pub total_of_lanes : (add : ℕ → ℕ → ℕ) → ((a b : ℕ) → add a b ≡ (a + b) % 2 ^ 64) → (m : ℕ) (sum : ℤ) (xs : List ℤ)
    → m < 2 ^ 64 → to_z w64 m ≡ sum → nat_abs sum + sum_by nat_abs xs ≤ total_limit → to_z w64 (fold_l add m (map (of_z w64) xs)) ≡ sum +ℤ total_of xs
total_of_lanes add wraps m sum [] fits is small = omega (arith, ints)
total_of_lanes add wraps m sum (x ∷ xs) fits is small =
    let sizes = sum_by-cons nat_abs x xs in
    let next = add m (of_z w64 x) in
    let step : to_z w64 next ≡ sum +ℤ x =
    ap (to_z w64) (wraps m (of_z w64 x)) ∙ wrapping_add_onto w64 m x fits (small_fits x (omega arith)) ∙ ap (λ s. int_wrap w64 (s +ℤ x)) is
    ∙ int_wrap_fits w64 (sum +ℤ x) (small_fits (sum +ℤ x) (omega (arith, ints))) in
    let below : next < 2 ^ 64 = subst (λ n. n < 2 ^ 64) (sym (wraps m (of_z w64 x))) (mod-lt (m + of_z w64 x) (lit< tt)) in
    total_of_lanes add wraps next (sum +ℤ x) xs below step (omega (arith, ints)) ∙ omega (arith, ints)
