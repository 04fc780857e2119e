use Rattle.std.proofs.Common.{◌≡◌, ◌++◌, [], ◌∷◌}
use Rattle.fc_base.specs.StatisticView.{stat_view}
use Rattle.fc_docset.specs.Positions.{positions}
use Rattle.fc_count.specs.Counted.{AreCounted}
use Rattle.fc_count.proofs.counting.count_values.Given as goal

abbrev pub invariant-loop-at : goal.invariant-loop-at
invariant-loop-at g l = record {
  counted : AreCounted l.segment.blocks (g.N.Numbering.holds l.numbering) (g.N.Numbering.bound l.numbering) (stat_view l.stat ∷ []) l.yielded l.cells;
  left : l.yielded ++ l.at-iterator ≡ positions l.docs;
}
