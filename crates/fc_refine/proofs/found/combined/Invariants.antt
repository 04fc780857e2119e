use Rattle.std.proofs.Common.{◌≡◌, map, drop}
use Rattle.fc_spec.specs.requests.Combining.{combined}
use Rattle.fc_base.specs.StatisticView.{stat_view}
use Rattle.fc_partial.specs.Adding.{HasShape}
use Rattle.fc_partial.specs.StatsView.{stats_view}
use Rattle.fc_refine.specs.Listings.{all_of, AddUpInTurn, listed_view}
use Rattle.fc_refine.proofs.found.combined.Given as goal

abbrev pub invariant-loop-one : goal.invariant-loop-one
invariant-loop-one l =
    let ss = map stat_view l.stats in
    let left = map listed_view (drop l.one-index l.listed) in
    record {
      shaped : HasShape ss (stats_view l.all);
      fit : AddUpInTurn ss (stats_view l.all) left;
      is : combined ss (stats_view l.all) (all_of ss left) ≡ all_of ss (map listed_view l.listed);
    }
