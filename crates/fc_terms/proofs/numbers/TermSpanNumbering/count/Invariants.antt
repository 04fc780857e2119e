use Rattle.std.proofs.Common.{◌+◌, map, take}
use Rattle.fc_lists.specs.Among.{is_among}
use Rattle.fc_partial.specs.View.{stat_value_view}
use Rattle.fc_count.specs.Counted.{HaveCounted}
use Rattle.fc_terms.proofs.numbers.TermSpanNumbering.count.Given as goal

abbrev pub invariant-loop-ord : goal.invariant-loop-ord
invariant-loop-ord l = HaveCounted (λ i. is_among (l.self.from + i) (take l.ord-index l.ord-items)) (map stat_value_view l.values) l.fn.cells l.cells
