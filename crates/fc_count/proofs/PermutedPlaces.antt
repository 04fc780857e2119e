-- Places whose statistics fit, in another order.
use Rattle.std.proofs.Common.{◌≡◌, ◌+◌, ℕ, List, [], ◌∷◌, ◌++◌, length, sum_by, refl, sym, ap, ◌∙◌, arith}
use Rattle.std.specs.Prelude.{nat_abs, IsPermutation}
use Rattle.std.proofs.lemmas.List.Concat.{flat_map-append, length-flat_map}
use Rattle.std.proofs.lemmas.List.Elements.{filter_map-append}
use Rattle.std.proofs.lemmas.List.Sorted.{length_permutation, sum_by-IsPermutation}
use Rattle.std.proofs.lemmas.List.Sums.{sum_by-append}
use Rattle.fc_spec.specs.documents.Columns.{as_long, longs_in}
use Rattle.fc_spec.specs.documents.Document.{values_of}
use Rattle.fc_spec.specs.documents.World.{Place}
use Rattle.fc_spec.specs.requests.Statistics.{pair_values, longs_of}
use Rattle.fc_spec.proofs.words.Permuted.{holds_of_permutations}
use Rattle.fc_partial.specs.Fitting.{StatisticsFit}

module _ (field : ℕ) where
  same_pairs : (X Y : List Place) → IsPermutation X Y → length (pair_values field X) ≡ length (pair_values field Y)
  same_pairs X Y same =
      let values = λ (p : Place). values_of p.document field in
      length-flat_map values X ∙ sym (sum_by-IsPermutation (λ p. length (values p)) X Y same) ∙ sym (length-flat_map values Y)

  abbrev absolute : List Place → ℕ
  absolute X = sum_by nat_abs (longs_of field X)

  absolute-append : (X Y : List Place) → absolute (X ++ Y) ≡ absolute X + absolute Y
  absolute-append X Y =
      ap (λ vs. sum_by nat_abs (longs_in vs)) (flat_map-append (λ (p : Place). values_of p.document field) X Y)
      ∙ ap (sum_by nat_abs) (filter_map-append as_long (pair_values field X) (pair_values field Y))
      ∙ sum_by-append nat_abs (longs_of field X) (longs_of field Y)

  same_absolute : (X Y : List Place) → IsPermutation X Y → absolute X ≡ absolute Y
  same_absolute = holds_of_permutations (λ X Y. absolute X ≡ absolute Y)
      (λ X. refl)
      (λ p X Y same. absolute-append (p ∷ []) X ∙ ap (λ n. absolute (p ∷ []) + n) same ∙ sym (absolute-append (p ∷ []) Y))
      (λ p q X. omega (
        arith,
        absolute-append (p ∷ []) (q ∷ X),
        absolute-append (q ∷ []) X,
        absolute-append (q ∷ []) (p ∷ X),
        absolute-append (p ∷ []) X,
      ))
      (λ X Y Z same more. same ∙ more)

pub permuted_fit : (X Y : List Place) → IsPermutation X Y → StatisticsFit Y → StatisticsFit X
permuted_fit X Y same fit = record {
  places = omega (arith, fit.places, length_permutation X Y same);
  pairs = λ field. omega (arith, fit.pairs field, same_pairs field X Y same);
  sums = λ field. omega (arith, fit.sums field, same_absolute field X Y same);
}
