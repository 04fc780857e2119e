use Rattle.std.proofs.Common.{◌∙◌, ◌++◌, map, sym, ap, ap₂}
use Rattle.std.proofs.lemmas.List.{map-append}
use Rattle.fc_base.specs.StatisticView.{stat_view}
use Rattle.fc_partial.specs.View.{stat_value_view}
use Rattle.fc_count.proofs.RowValues.{more_values}
use Rattle.fc_count.proofs.rows.read_rows.Goals as goal

pub loop-at-preserved : goal.loop-at-preserved
loop-at-preserved c =
    let ss = map stat_view c.args.stats.now in
    let i = c.loop-at.at-index in
    ap (map stat_value_view) c.in_ok-extend_from_slice.ensures.items
    ∙ map-append stat_value_view c.loop-at.rows.items c.deref.result.now
    ∙ ap₂ (λ a b. a ++ b) c.loop-at.invariant (ap (map stat_value_view) c.deref.ensures.value ∙ c.in_ok-document_values.ensures)
    ∙ sym (more_values c.args.segment.now.blocks ss c.args.positions.now i c.loop-at-test.true)
