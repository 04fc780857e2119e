use Rattle.std.proofs.Common.{◌∙◌, ◌+◌, ◌||◌, ◌&&◌, nat_le, nat_lt, ap₂, sym, arith}
use Rattle.fc_docset.specs.Positions.{contains}
use Rattle.fc_segment.proofs.BlockMarks.{in_block}
use Rattle.fc_segment.proofs.segment_core.SegmentCore.add_block.Goals as goal

pub overflow_add-parent : goal.overflow_add-parent
overflow_add-parent c = omega (arith, c.len-len.ensures, c.requires.within, c.requires.length)

pub add_range-requires-clause-ordered : goal.add_range-requires-clause-ordered
add_range-requires-clause-ordered c =
    let is = in_block c.args.self.now.blocks c.args.parent c.requires.within in
    omega (arith, is.first, c.first_child.ensures)

pub returns-clause-set : goal.returns-clause-set
returns-clause-set c = λ k.
    c.add_range.ensures.set k
    ∙ ap₂ (λ first b. contains c.args.into.now k || (b && (nat_le first k && nat_lt k (c.args.parent + 1)))) c.first_child.ensures (sym c.requires.parent)
