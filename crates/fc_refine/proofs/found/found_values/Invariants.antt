use Rattle.std.proofs.Common.{◌≡◌, ◌++◌, map}
use Rattle.std.specs.Prelude.{All}
use Rattle.fc_base.specs.StatisticView.{stat_view}
use Rattle.fc_refine.specs.CandidateView.{found_group, IsCombined}
use Rattle.fc_refine.specs.Grouped.{map_view}
use Rattle.fc_refine.specs.Listings.{CanCombine, listed_view}
use Rattle.fc_refine.proofs.Growing.{seen}
use Rattle.fc_refine.proofs.found.found_values.Given as goal

abbrev pub invariant-loop-val : goal.invariant-loop-val
invariant-loop-val l =
    let ss = map stat_view l.stats in
    record {
      groups : map found_group l.found.items ++ seen listed_view l.val-iterator ≡ map_view listed_view l.fn.by_value;
      combined : All (IsCombined ss) l.found.items;
      can : All (λ group. CanCombine ss group.1) (seen listed_view l.val-iterator);
    }
