use Rattle.std.proofs.Common.{◌==◌, ◌≤◌, length, count_by, slice_range, subst, sym, ap, ◌∙◌, arith, rules, of_calls}
use Rattle.std.specs.Ordering.{int_cmp, is_lt, is_le}
use Rattle.std.proofs.lemmas.Fn.{always_returns_same}
use Rattle.fc_lane.specs.Between.{is_between}
use Rattle.fc_lists.specs.Ordered.{Rise, AreInOrder}
use Rattle.fc_column.proofs.InOrder.{low_in_front, upto_in_front, span_counts, none_counts, positions_in_rows}
use Rattle.fc_column.proofs.long.LongColumn.positions_between.Goals as goal

pub returns-then-from-to-clause-positions : goal.returns-then-from-to-clause-positions
returns-then-from-to-clause-positions c = λ at.
    let lo = c.args.lo in
    let hi = c.args.hi in
    let column = c.self.inside in
    let values = column.values.items in
    let positions = column.positions.items in
    let order : AreInOrder values positions c.args.self.now = subst (AreInOrder values positions) c.self.view_is c.self.invariant.in_order in
    let first = c.deref.ensures.value in
    let second = c.deref-2.ensures.value in
    let low = rw first at (c.partition_point-from.ensures.partitioned (λ v. is_lt (int_cmp v lo)) (always_returns_same _ _ _ (λ a r f k. search (rules, of_calls)))
    (low_in_front c.deref.result.now lo (subst Rise (sym first) order.rising))) in
    let high = rw second at (c.partition_point-to.ensures.partitioned (λ v. is_le (int_cmp v hi)) (always_returns_same _ _ _ (λ a r f k. search (rules, of_calls)))
    (upto_in_front c.deref-2.result.now hi (subst Rise (sym second) order.rising))) in
    let bound = c.partition_point-to.ensures.bound in
    let within : c.partition_point-to.result ≤ length values = omega (arith, bound, ap length second) in
    ap (λ l. count_by (λ position. position == at) (slice_range l c.partition_point-from.result c.partition_point-to.result)) c.deref-then-from-to.ensures.value
    ∙ span_counts lo hi values positions c.args.self.now order c.partition_point-from.result c.partition_point-to.result low.0 low.1 high.0 high.1 within (omega arith) at

pub returns-then-from-to-clause-within : goal.returns-then-from-to-clause-within
returns-then-from-to-clause-within c =
    positions_in_rows (is_between c.args.lo c.args.hi) (slice_range c.deref-then-from-to.result.now c.partition_point-from.result c.partition_point-to.result) c.args.self.now
    (returns-then-from-to-clause-positions c)

pub returns-else-from-to-clause-positions : goal.returns-else-from-to-clause-positions
returns-else-from-to-clause-positions c = λ at.
    let lo = c.args.lo in
    let hi = c.args.hi in
    let column = c.self.inside in
    let values = column.values.items in
    let positions = column.positions.items in
    let order : AreInOrder values positions c.args.self.now = subst (AreInOrder values positions) c.self.view_is c.self.invariant.in_order in
    let first = c.deref.ensures.value in
    let second = c.deref-2.ensures.value in
    let low = rw first at (c.partition_point-from.ensures.partitioned (λ v. is_lt (int_cmp v lo)) (always_returns_same _ _ _ (λ a r f k. search (rules, of_calls)))
    (low_in_front c.deref.result.now lo (subst Rise (sym first) order.rising))) in
    let high = rw second at (c.partition_point-to.ensures.partitioned (λ v. is_le (int_cmp v hi)) (always_returns_same _ _ _ (λ a r f k. search (rules, of_calls)))
    (upto_in_front c.deref-2.result.now hi (subst Rise (sym second) order.rising))) in
    let bound = c.partition_point-to.ensures.bound in
    let within : c.partition_point-to.result ≤ length values = omega (arith, bound, ap length second) in
    none_counts lo hi values positions c.args.self.now order c.partition_point-from.result c.partition_point-to.result low.0 low.1 high.0 high.1 within (omega arith) at
