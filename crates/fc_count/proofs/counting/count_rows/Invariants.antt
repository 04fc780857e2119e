use Rattle.std.proofs.Common.{◌≡◌, ◌++◌, map}
use Rattle.fc_base.specs.StatisticView.{stat_view}
use Rattle.fc_docset.specs.Positions.{positions}
use Rattle.fc_count.specs.Counted.{AreCounted}
use Rattle.fc_count.proofs.counting.count_rows.Given as goal

abbrev pub invariant-loop-at : goal.invariant-loop-at
invariant-loop-at g l = record {
  counted : AreCounted l.segment.blocks (g.N.Numbering.holds l.numbering) (g.N.Numbering.bound l.numbering) (map stat_view l.stats) l.yielded l.cells;
  left : l.yielded ++ l.at-iterator ≡ positions l.docs;
}
