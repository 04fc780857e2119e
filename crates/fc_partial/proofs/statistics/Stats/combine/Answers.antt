use Rattle.std.proofs.Common.{◌∙◌, map, sym, arith}
use Rattle.std.proofs.lemmas.Grind.{common_steps}
use Rattle.fc_spec.specs.requests.Combining.{combined}
use Rattle.fc_spec.proofs.requests.Statistics.{stats_over-append}
use Rattle.fc_base.specs.StatisticView.{stat_view}
use Rattle.fc_partial.proofs.statistics.Stats.combine.Goals as goal

pub returns-clause-combined : goal.returns-clause-combined
returns-clause-combined c = grind (arith, common_steps)

pub returns-clause-of_both : goal.returns-clause-of_both
returns-clause-of_both c X Y first second =
    let ss = map stat_view c.args.stats.now in
    returns-clause-combined c ∙ (λ i. combined ss (first i) (second i)) ∙ sym (stats_over-append ss X Y)
