-- What places in a list select, a list of the same members that ascends has at its front.
use Rattle.std.specs.Prelude.{◌≡◌, ℕ, zero, suc, ◌+◌, List, [], ◌∷◌, ◌++◌, take, drop, Bool, true, false, cond, IsPermutation, ◌==◌, nat_lt}
use Rattle.std.specs.List.{filter, flat_map, range_with_len}
use Rattle.std.proofs.Common.{refl, ap, sym, ◌∙◌, arith, add-one}
use Rattle.std.proofs.lemmas.List.{length-take}
use Rattle.std.proofs.lemmas.List.Concat.{flat_map-cons}
use Rattle.std.proofs.lemmas.List.Elements.{filter_agree}
use Rattle.std.proofs.lemmas.List.Sorted.{sum_by-IsPermutation}
use Rattle.fc_spec.proofs.words.PermutedFilters.{IsPermutation-filter, same_short_permutation}
use Rattle.fc_spec.proofs.words.Picked.{picked, picked-one, picked-below}
use Rattle.fc_spec.proofs.words.Ranked.{place, Ascends, filter_by_place}

-- a member and those after it
take-suc-drop : {X : Type 0} (n k : ℕ) (xs : List X) → take 1 (drop k xs) ++ take n (drop (suc k) xs) ≡ take (suc n) (drop k xs)
take-suc-drop zero zero [] = refl
take-suc-drop (suc n) zero [] = refl
take-suc-drop n zero (x ∷ xs) = refl
take-suc-drop zero (suc k) [] = refl
take-suc-drop (suc n) (suc k) [] = refl
take-suc-drop n (suc k) (x ∷ xs) = take-suc-drop n k xs

module _ {X : Type 0} (before : X → X → Bool) (one_way : (a b : X) → before a b ≡ true → before b a ≡ false)
    (V L : List X) (members : IsPermutation V L) (up : Ascends before L) where
  -- a test of the place in V picks positions in L
  filter_by_place_permuted : (t : ℕ → Bool) → IsPermutation (filter (λ e. t (place before V e)) V) (picked t L)
  filter_by_place_permuted t =
      let same = filter_agree (λ e. t (place before V e)) (λ e. t (place before L e)) (λ x. ap t (sym (sum_by-IsPermutation (λ w. cond (before w x) 1 0) V L members))) L in
      rw (← (same ∙ filter_by_place before one_way t L up)) (IsPermutation-filter (λ e. t (place before V e)) V L members)

  -- the member at a place, where there is one
  pub filter_at_place : (k : ℕ) → filter (λ e. place before V e == k) V ≡ take 1 (drop k L)
  filter_at_place k =
      let t : ℕ → Bool = λ n. n == k in
      let one = picked-one t k L (λ n. refl) in
      same_short_permutation _ _ (rw one at (filter_by_place_permuted t)) (omega (arith, length-take 1 (drop k L)))

  -- those of the places below a bound
  pub filter_below_place : (b : ℕ) → IsPermutation (filter (λ e. nat_lt (place before V e) b) V) (take b L)
  filter_below_place b =
      let t : ℕ → Bool = λ n. nat_lt n b in
      rw (← picked-below t b L (λ n. refl)) (filter_by_place_permuted t)

  -- those of n places from one on, in their order
  pub flat_map_by_places : (n from : ℕ) → flat_map (λ k. filter (λ e. place before V e == k) V) (range_with_len from n) ≡ take n (drop from L)
  flat_map_by_places zero from = refl
  flat_map_by_places (suc n) from =
      flat_map-cons (λ k. filter (λ e. place before V e == k) V) from (range_with_len (from + 1) n)
      ∙ rw (filter_at_place from, flat_map_by_places n (from + 1), add-one) (take-suc-drop n from L)
