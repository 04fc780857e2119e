use Rattle.std.proofs.Common.{◌<◌, ◌^◌, List, map, sym, ◌∙◌, ap, subst}
use Rattle.std.specs.List.{enumerate_from}
use Rattle.fc_spec.specs.requests.Statistics.{Stats}
use Rattle.fc_base.specs.StatisticView.{stat_view}
use Rattle.fc_partial.specs.StatsView.{stats_view}
use Rattle.fc_coord.specs.Spots.{tree_at}
use Rattle.fc_coord.specs.TreeReading.{counts_of, sizes_of, values_of}
use Rattle.fc_coord.proofs.ToldLists.{counts_over, counts_fit, values_over, sizes_fit}
use Rattle.fc_coord.proofs.spot.Spot.stats_on.Goals as goal

pub values_of-requires : goal.values_of-requires
values_of-requires c = λ m.
    let here = c.args.self.now in
    let told = ap (map (λ s. stats_view s.now)) c.deref.ensures.value ∙ c.in_ok-told.ensures in
    subst (λ (list : List Stats). sizes_of m list < 2 ^ 63) (sym told) (sizes_fit (tree_at here.place) c.args.shards.now here.fit c.requires m)

pub count_of-requires : goal.count_of-requires
count_of-requires c =
    let here = c.args.self.now in
    let told = ap (map (λ s. stats_view s.now)) c.deref-2.ensures.value ∙ c.in_ok-told.ensures in
    subst (λ (list : List Stats). counts_of list < 2 ^ 64) (sym told) (counts_fit (tree_at here.place) c.args.shards.now here.fit c.requires)

pub returns : goal.returns
returns c =
    let T = tree_at c.args.self.now.place in
    let H = c.args.shards.now in
    let told = ap (map (λ s. stats_view s.now)) c.deref.ensures.value ∙ c.in_ok-told.ensures in
    let again = ap (map (λ s. stats_view s.now)) c.deref-2.ensures.value ∙ c.in_ok-told.ensures in
    let count = c.count_of.ensures ∙ ap counts_of again ∙ sym (counts_over H T) in
    let values = c.in_ok-values.ensures ∙ (λ j. map (λ s. values_of s.0 s.1 (told j)) (enumerate_from 0 (map stat_view c.args.stats.now))) ∙ (λ j. map (λ s. sym (values_over s.0 s.1 H T) j) (enumerate_from 0 (map stat_view c.args.stats.now))) in
    λ j. record { count = count j; values = values j }
