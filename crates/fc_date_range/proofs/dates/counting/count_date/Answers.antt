use Rattle.std.proofs.Common.{◌≡◌, ◌≤◌, ◌&&◌, true, map, sym, arith, rules}
use Rattle.std.specs.Prelude.{nat_le}
use Rattle.fc_spec.specs.requests.DateGaps.{date_gap_count, in_date_gap}
use Rattle.fc_facet.specs.KindView.{date_range_view}
use Rattle.fc_partial.specs.View.{stat_value_view}
use Rattle.fc_count.proofs.CountedSteps.{counted_same}
use Rattle.fc_range.proofs.GapSteps.{near_passed, passed, there_if}
use Rattle.fc_range.proofs.Reached.{alike_reached}
use Rattle.fc_date_range.specs.GapDates.{has_date}
use Rattle.fc_date_range.proofs.dates.counting.count_date.Goals as goal

pub count_gaps-requires-clause-fits : goal.count_gaps-requires-clause-fits
count_gaps-requires-clause-fits c = λ i from below holds.
    let g = date_range_view c.args.range.now in
    let least : c.args.reached ≤ c.max-from.result = search rules in
    let most : c.min-to.result ≤ date_gap_count g = search rules in
    let held : has_date g c.args.date.now i ≡ true = there_if (date_gap_count g) (λ k. in_date_gap g k c.args.date.now) i (omega arith) holds in
    c.requires.fits i (omega arith) held

pub returns-clause-counted : goal.returns-clause-counted
returns-clause-counted c =
    let g = date_range_view c.args.range.now in
    let t = c.args.date.now in
    let values = map stat_value_view c.args.values.now in
    let n = c.edges_before-number.result in
    let from = c.max-from.result in
    let to = c.min-to.result in
    let first : c.args.reached ≤ from = search rules in
    let last : to ≤ date_gap_count g = search rules in
    counted_same (passed (λ k. in_date_gap g k t) from to) (λ i. nat_le c.args.reached i && has_date g t i) values c.args.cells.now c.count_gaps.new.cells
    (λ i l. sym (near_passed (date_gap_count g) (λ k. in_date_gap g k t) n c.args.reached from to c.edges_before-number.ensures.near first (λ k a b. grind arith) last (λ k a b. grind arith) i)) c.count_gaps.ensures.counted

pub returns-clause-reached : goal.returns-clause-reached
returns-clause-reached c =
    let g = date_range_view c.args.range.now in
    let t = c.args.date.now in
    let n = c.edges_before-number.result in
    let from = c.max-from.result in
    let to = c.min-to.result in
    let first : c.args.reached ≤ from = search rules in
    let last : to ≤ date_gap_count g = search rules in
    alike_reached (passed (λ k. in_date_gap g k t) from to) (λ i. nat_le c.args.reached i && has_date g t i) c.args.reached c.count_gaps.result
    (λ i. near_passed (date_gap_count g) (λ k. in_date_gap g k t) n c.args.reached from to c.edges_before-number.ensures.near first (λ k a b. grind arith) last (λ k a b. grind arith) i) c.count_gaps.ensures.reached
