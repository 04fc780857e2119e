use Rattle.std.proofs.Common.{◌∙◌, sym, ap₂, arith}
use Rattle.fc_spec.specs.requests.Statistics.{combined_value}
use Rattle.fc_base.specs.StatisticView.{stat_view}
use Rattle.fc_kind.proofs.ReadPlaces.{value_fits, value_more}
use Rattle.fc_kind.proofs.statistics.value_by_documents.Goals as goal

pub combined-value-requires : goal.combined-value-requires
combined-value-requires c =
    let fits = value_fits c.args.segment.now.blocks c.args.positions.now c.loop-at.at-index (omega arith) c.requires.fit (stat_view c.args.stat) in
    rw (c.loop-at.invariant, c.document_value.ensures) fits

pub loop-at-preserved : goal.loop-at-preserved
loop-at-preserved c =
    let s = stat_view c.args.stat in
    c.combined-value.ensures
    ∙ ap₂ (combined_value s.of) c.loop-at.invariant c.document_value.ensures
    ∙ sym (value_more c.args.segment.now.blocks c.args.positions.now c.loop-at.at-index (omega arith) s)
