use Rattle.std.proofs.Common.{◌<◌, ◌∙◌, pos, length, map, set, sym, ap, ap₂, arith}
use Rattle.std.proofs.lemmas.List.{get_or_read, get_or-map, map-set}
use Rattle.fc_spec.specs.requests.Statistics.{number, combined_value}
use Rattle.fc_base.specs.StatisticView.{stat_kind_view}
use Rattle.fc_partial.specs.View.{stat_value_view}
use Rattle.fc_partial.specs.declared.statistics.StatValue.TheVariants.{Number}
use Rattle.fc_partial.proofs.statistics.Stats.add_longs.Goals as goal

pub returns : goal.returns
returns c =
    let values = c.args.self.now.values.items in
    let at = c.args.at in
    let within : at < length values = omega (arith, c.requires.place, c.args.self.now.values.ok.0) in
    let old = ap stat_value_view (get_or_read values at _ within c.index.ensures (Number (pos 0))) ∙ sym (get_or-map stat_value_view values at (Number (pos 0)) (number (pos 0)) within) in
    let new = c.combined.ensures ∙ ap₂ (combined_value (stat_kind_view c.args.of)) old c.of_masked-more.ensures in
    ap (λ l. record { count = c.args.self.now.count; values = l }) (map-set stat_value_view values at c.combined.result ∙ ap (set (map stat_value_view values) at) new)
