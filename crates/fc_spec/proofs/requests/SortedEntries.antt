-- The two laws from ranks to sorting.
use Rattle.std.specs.Prelude.{length, None, Some, drop}
use Rattle.std.proofs.Common.{◌∙◌, arith, length-drop}
use Rattle.std.proofs.lemmas.List.{take_all}
use Rattle.std.proofs.lemmas.List.Sorted.{length_permutation}
use Rattle.fc_spec.specs.requests.Ranks.{is_ahead}
use Rattle.fc_spec.specs.laws.SortingLaw.{PagesAreCuts, RanksAreFronts}
use Rattle.fc_spec.proofs.words.Counting.{filter-all}
use Rattle.fc_spec.proofs.requests.EntryOrder.{is_ahead_one_way}
use Rattle.fc_spec.proofs.words.Sorting.{flat_map_by_places, filter_below_place}

-- a page is cut out of the sorted list
pub page_is_cut : PagesAreCuts
page_is_cut s offset (Some n) V L h = flat_map_by_places (is_ahead s) (is_ahead_one_way s) V L h.members h.ahead n offset
page_is_cut s offset None V L h = flat_map_by_places (is_ahead s) (is_ahead_one_way s) V L h.members h.ahead (length V) offset
    ∙ take_all (length V) (drop offset L) (omega (arith, length-drop offset L, length_permutation V L h.members))

-- the entries below a rank are the members of its front
pub below_rank_is_front : RanksAreFronts
below_rank_is_front s (Some b) V L h = filter_below_place (is_ahead s) (is_ahead_one_way s) V L h.members h.ahead b
below_rank_is_front s None V L h = rw filter-all h.members
