use Rattle.std.proofs.Common.{◌+ℤ◌, pos, map, take}
use Rattle.fc_spec.specs.documents.Val.{long, has_val}
use Rattle.fc_partial.specs.View.{stat_value_view}
use Rattle.fc_count.specs.Counted.{HaveCounted}
use Rattle.fc_terms.proofs.numbers.LongSpanNumbering.count.Given as goal

abbrev pub invariant-loop-value : goal.invariant-loop-value
invariant-loop-value l = HaveCounted (λ i. has_val (long (l.self.least +ℤ pos i)) (map long (take l.value-index l.value-items))) (map stat_value_view l.values) l.fn.cells l.cells
