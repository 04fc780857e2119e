use Rattle.std.proofs.Common.{◌≡◌, suc, ◌-◌, ◌<◌, map, drop, length, sym, ◌∙◌, ap, ap₂, arith}
use Rattle.fc_base.specs.StatisticView.{stat_view}
use Rattle.fc_spec.specs.laws.SumsLaw.{size_of}
use Rattle.fc_spec.specs.requests.Statistics.{combined_value}
use Rattle.fc_partial.specs.StatsView.{stats_view}
use Rattle.fc_coord.specs.TreeReading.{values_of}
use Rattle.fc_coord.proofs.ToldLists.{size_next, told_first}
use Rattle.fc_coord.proofs.told_stats.combined_value.Goals as goal

pub combined-value-requires : goal.combined-value-requires
combined-value-requires c =
    let told = map (λ s. stats_view s.now) c.args.told.now in
    let m = c.args.number in
    let s = stat_view c.args.stat in
    let k = c.loop-at.at - 1 in
    let next : suc k ≡ c.loop-at.at = omega arith in
    let less : k < length c.args.told.now = omega arith in
    let first = told_first c.args.told.now k c.index-told-at.result less c.index-told-at.is in
    let small = size_next m s told k (stats_view c.index-told-at.result.now) first in
    let own = ap size_of c.value_of.ensures in
    let rest = ap size_of (c.loop-at.invariant ∙ ap (λ n. values_of m s (drop n told)) (sym next)) in
    let fit = c.requires in
    omega arith

pub loop-at-preserved : goal.loop-at-preserved
loop-at-preserved c =
    let told = map (λ s. stats_view s.now) c.args.told.now in
    let m = c.args.number in
    let s = stat_view c.args.stat in
    let k = c.loop-at.at - 1 in
    let next : suc k ≡ c.loop-at.at = omega arith in
    let less : k < length c.args.told.now = omega arith in
    let first = told_first c.args.told.now k c.index-told-at.result less c.index-told-at.is in
    let rest = c.loop-at.invariant ∙ ap (λ n. values_of m s (drop n told)) (sym next) in
    c.combined-value.ensures ∙ ap₂ (combined_value s.of) c.value_of.ensures rest ∙ ap (values_of m s) (sym first)
