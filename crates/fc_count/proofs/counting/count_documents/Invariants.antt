use Rattle.std.proofs.Common.{◌≡◌, ◌++◌, []}
use Rattle.fc_docset.specs.Positions.{positions}
use Rattle.fc_count.specs.Counted.{AreCounted}
use Rattle.fc_count.proofs.counting.count_documents.Given as goal

abbrev pub invariant-loop-at : goal.invariant-loop-at
invariant-loop-at g l = record {
  counted : AreCounted l.segment.blocks (g.N.Numbering.holds l.numbering) (g.N.Numbering.bound l.numbering) [] l.yielded l.cells;
  left : l.yielded ++ l.at-iterator ≡ positions l.docs;
}
