-- Maps of what is told by values.
use Rattle.std.proofs.Common.{◌≡◌, List, [], map, refl, sym, ◌∙◌, ap}
use Rattle.std.specs.Prelude.{is_some}
use Rattle.std.specs.List.Sorted.{IsStrictlySortedBy}
use Rattle.std.specs.Map.{keys_of}
use Rattle.fc_spec.specs.documents.Val.{distinct}
use Rattle.fc_spec.specs.messages.TopRounds.{ToldCount}
use Rattle.fc_spec.proofs.documents.Ascending.{same_ascending, has_val-distinct, distinct_ascends}
use Rattle.fc_refine.specs.Grouped.{Group, Holds}
use Rattle.fc_refine.proofs.Growing.{has_val-keys, held_groups, is_some-if_any}
use Rattle.fc_exact.specs.ToldFacets.{Count, counts_of, values_in}
use Rattle.fc_exact.proofs.ToldLists.{is_told}

pub holds_none : Holds (λ v. counts_of v []) []
unfolding IsStrictlySortedBy
holds_none = record { lists = λ v. refl; ascend = tt }

-- the groups of a map that holds what is told of each value
pub values_are : (A : List ToldCount) (gs : List (Group Count)) → Holds (λ v. counts_of v A) gs → gs ≡ values_in A
values_are A gs holds =
    let vals = map (λ (a : ToldCount). a.val) A in
    let keys : keys_of gs ≡ distinct vals = same_ascending (keys_of gs) (distinct vals) holds.ascend (distinct_ascends vals)
    (λ v. has_val-keys v gs ∙ ap is_some (holds.lists v) ∙ is_some-if_any (counts_of v A) ∙ is_told v A ∙ sym (has_val-distinct v vals)) in
    held_groups (λ v. counts_of v A) gs holds ∙ ap (map (λ v. (v, counts_of v A))) keys
