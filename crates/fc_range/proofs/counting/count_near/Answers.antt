use Rattle.std.proofs.Common.{◌≡◌, ◌≤◌, ◌∙◌, ◌&&◌, true, map, sym, ap, w64, to_z, of_z, arith, rules}
use Rattle.std.specs.Prelude.{nat_le}
use Rattle.std.proofs.lemmas.Int.{to_z-of_z}
use Rattle.fc_spec.specs.requests.Gaps.{gap_count, in_gap}
use Rattle.fc_facet.specs.KindView.{range_view}
use Rattle.fc_partial.specs.View.{stat_value_view}
use Rattle.fc_count.proofs.CountedSteps.{counted_same}
use Rattle.fc_range.specs.Reached.{is_held}
use Rattle.fc_range.proofs.GapSteps.{near_passed, passed, there_if}
use Rattle.fc_range.proofs.Reached.{alike_reached}
use Rattle.fc_range.proofs.counting.count_near.Goals as goal

pub count_gaps-requires-clause-fits : goal.count_gaps-requires-clause-fits
count_gaps-requires-clause-fits c = λ i from below holds.
    let g = range_view c.args.range.now in
    let least : c.args.reached ≤ c.max-from.result = search rules in
    let most : c.min-to.result ≤ gap_count g = search rules in
    let held : is_held g c.args.x i ≡ true = there_if (gap_count g) (λ k. in_gap g k c.args.x) i (omega arith) (ap (in_gap g i) (sym (to_z-of_z w64 c.args.x c.ranges.x)) ∙ holds) in
    c.requires.fits i (omega arith) held

pub returns-clause-counted : goal.returns-clause-counted
returns-clause-counted c =
    let g = range_view c.args.range.now in
    let values = map stat_value_view c.args.values.now in
    let x = to_z w64 (of_z w64 c.args.x) in
    let n = c.gaps_before-number.result in
    let from = c.max-from.result in
    let to = c.min-to.result in
    let first : c.args.reached ≤ from = search rules in
    let last : to ≤ gap_count g = search rules in
    counted_same (passed (λ k. in_gap g k x) from to) (λ i. nat_le c.args.reached i && is_held g c.args.x i) values c.args.cells.now c.count_gaps.new.cells
    (λ i l. sym (near_passed (gap_count g) (λ k. in_gap g k x) n c.args.reached from to (λ k there. c.gaps_before-number.ensures k) first (λ k a b. grind arith) last (λ k a b. grind arith) i
    ∙ (λ j. nat_le c.args.reached i && is_held g (to_z-of_z w64 c.args.x c.ranges.x j) i))) c.count_gaps.ensures.counted

pub returns-clause-reached : goal.returns-clause-reached
returns-clause-reached c =
    let g = range_view c.args.range.now in
    let x = to_z w64 (of_z w64 c.args.x) in
    let n = c.gaps_before-number.result in
    let from = c.max-from.result in
    let to = c.min-to.result in
    let first : c.args.reached ≤ from = search rules in
    let last : to ≤ gap_count g = search rules in
    alike_reached (passed (λ k. in_gap g k x) from to) (λ i. nat_le c.args.reached i && is_held g c.args.x i) c.args.reached c.count_gaps.result
    (λ i. near_passed (gap_count g) (λ k. in_gap g k x) n c.args.reached from to (λ k there. c.gaps_before-number.ensures k) first (λ k a b. grind arith) last (λ k a b. grind arith) i
    ∙ (λ j. nat_le c.args.reached i && is_held g (to_z-of_z w64 c.args.x c.ranges.x j) i)) c.count_gaps.ensures.reached
