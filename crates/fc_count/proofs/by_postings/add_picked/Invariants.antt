use Rattle.fc_docset.specs.Positions.{positions}
use Rattle.fc_count.specs.Added.{HaveAdded}
use Rattle.fc_count.specs.Held.{held_stats}
use Rattle.fc_count.proofs.by_postings.add_picked.Given as goal

abbrev pub invariant-loop-number : goal.invariant-loop-number
invariant-loop-number g l =
    HaveAdded (g.P.Keys.key l.postings) (held_stats l.segment.blocks (g.P.Postings.holds l.postings) l.bound l.fn.into.stats (positions l.docs)) l.number l.fn.into l.into
