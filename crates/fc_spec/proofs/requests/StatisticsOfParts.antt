-- Statistics of the same places in another order, and of the places that pass either of two tests.
use Rattle.std.specs.Prelude.{◌≡◌, List, [], ◌∷◌, ◌++◌, map, IsPermutation}
use Rattle.std.specs.List.{filter}
use Rattle.std.proofs.Common.{refl, ap, sym, ◌∙◌}
use Rattle.std.proofs.lemmas.List.Sorted.{length_permutation}
use Rattle.std.proofs.Math.Path.{fun_ext}
use Rattle.fc_spec.specs.documents.World.{Place}
use Rattle.fc_spec.specs.requests.Request.{Stat}
use Rattle.fc_spec.specs.requests.Statistics.{value_over, stats_over, combined_value}
use Rattle.fc_spec.specs.laws.CombiningLaw.{CombinesParts}
use Rattle.fc_spec.proofs.words.Permuted.{holds_of_permutations}
use Rattle.fc_spec.proofs.words.PermutedFilters.{IsPermutation-filter_either}
use Rattle.fc_spec.proofs.requests.Statistics.{statistic_in-append, combined_value_comm, stats_over-append}

-- a statistic of two places in either order, in front of others
value_over_two : (s : Stat) (x y : Place) (X : List Place) → value_over s (x ∷ y ∷ X) ≡ value_over s (y ∷ x ∷ X)
value_over_two s x y X =
    let joins : (Y Z : List Place) → value_over s (Y ++ Z) ≡ combined_value s.of (value_over s Y) (value_over s Z) = statistic_in-append s.of s.field in
    let e : value_over s (x ∷ y ∷ []) ≡ value_over s (y ∷ x ∷ []) =
    joins (x ∷ []) (y ∷ []) ∙ (combined_value_comm s.of (value_over s (x ∷ [])) (value_over s (y ∷ [])) ∙ sym (joins (y ∷ []) (x ∷ []))) in
    joins (x ∷ y ∷ []) X ∙ (ap (λ v. combined_value s.of v (value_over s X)) e ∙ sym (joins (y ∷ x ∷ []) X))

-- a statistic of the same places in another order
value_over-IsPermutation : (s : Stat) (X Y : List Place) → IsPermutation X Y → value_over s X ≡ value_over s Y
value_over-IsPermutation s = holds_of_permutations (λ X Y. value_over s X ≡ value_over s Y)
    (λ X. refl)
    (λ x X Y h. statistic_in-append s.of s.field (x ∷ []) X ∙ (ap (combined_value s.of (value_over s (x ∷ []))) h ∙ sym (statistic_in-append s.of s.field (x ∷ []) Y)))
    (value_over_two s)
    (λ X Y Z h k. h ∙ k)

-- the statistics of the same places in another order
pub stats_over-IsPermutation : (ss : List Stat) (X Y : List Place) → IsPermutation X Y → stats_over ss X ≡ stats_over ss Y
stats_over-IsPermutation ss X Y h =
    let values = ap (λ f. map f ss) (fun_ext (λ s. value_over-IsPermutation s X Y h)) in
    rw (length_permutation X Y h, values)

-- the statistics of the places that pass either of two tests
pub stats_over_parts : CombinesParts
stats_over_parts ss p q apart X = stats_over-IsPermutation ss _ _ (IsPermutation-filter_either p q apart X) ∙ stats_over-append ss (filter p X) (filter q X)
