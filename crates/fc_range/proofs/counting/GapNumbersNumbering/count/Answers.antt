use Rattle.std.proofs.Common.{◌≡◌, ◌<◌, ◌+◌, ◌∙◌, ◌&&◌, ◌||◌, ℕ, ℤ, pos, [], true, false, length, get_or, map, take, subst, sym, ap, w64, arith, rules}
use Rattle.std.specs.List.{list_any}
use Rattle.std.specs.Prelude.{nat_le}
use Rattle.std.proofs.lemmas.Int.{to_z-of_z}
use Rattle.std.proofs.lemmas.List.{take_all}
use Rattle.std.proofs.lemmas.List.Folds.{list_any_at, list_any_more}
use Rattle.fc_spec.specs.requests.Gaps.{gap_count, in_gap}
use Rattle.fc_facet.specs.KindView.{range_view}
use Rattle.fc_partial.specs.Adding.{AddUp}
use Rattle.fc_partial.specs.Celled.{of_one}
use Rattle.fc_partial.specs.View.{stat_value_view}
use Rattle.fc_count.specs.Counted.{HaveCounted}
use Rattle.fc_count.proofs.CountedSteps.{counted_before, counted_none, counted_same}
use Rattle.fc_range.specs.Reached.{IsReached, is_held}
use Rattle.fc_range.proofs.CountedOnce.{both_counted}
use Rattle.fc_range.proofs.GapRows.{any_held, fits_if_long, later_gaps}
use Rattle.fc_range.proofs.GapSteps.{there_parts}
use Rattle.fc_range.proofs.Reached.{alike_reached, counted_apart, either_counted, none_reached, reached_more}
use Rattle.fc_range.proofs.counting.GapNumbersNumbering.count.Goals as goal

pub count_integer-reached-requires-clause-fits : goal.count_integer-reached-requires-clause-fits
count_integer-reached-requires-clause-fits c = λ i behind held.
    let g = range_view c.args.self.now.range.now in
    let values = map stat_value_view c.args.values.now in
    let row = c.values_of-x-items.result.now in
    let k = c.loop-x.x-index in
    let inside : k < length row = c.loop-x-test.true in
    let x = get_or row k (pos 0) in
    let same = to_z-of_z w64 x (fits_if_long x (c.values_of-x-items.ensures.long k (pos 0) inside)) in
    let parts = there_parts (gap_count g) (λ n. in_gap g n x) i (ap (λ z. is_held g z i) (sym same) ∙ held) in
    let here : i < length c.args.cells.now.cells = let all = c.requires.bound in let there = parts.0 in omega (arith, there, all) in
    let holds : list_any (in_gap g i) row ≡ true = list_any_at (in_gap g i) row k (pos 0) inside parts.1 in
    subst (λ s. AddUp s (of_one values)) (sym (counted_before (λ j. list_any (λ z. is_held g z j) (take k row)) values c.args.cells.now c.loop-x.cells i c.loop-x.invariant.counted (c.loop-x.invariant.reached.behind i behind) here))
    (c.requires.fits i parts.0 (ap (list_any (in_gap g i)) (sym c.values_of-x-items.ensures.values) ∙ holds))

pub loop-x-init : goal.loop-x-init
loop-x-init c = record {
  counted = counted_none (map stat_value_view c.args.values.now) c.args.cells.now;
  reached = none_reached (λ i. false) 0 (λ i. search rules);
}

pub loop-x-preserved : goal.loop-x-preserved
loop-x-preserved c =
    let g = range_view c.args.self.now.range.now in
    let few = c.args.self.now.few in
    let values = map stat_value_view c.args.values.now in
    let row = c.values_of-x-items.result.now in
    let k = c.loop-x.x-index in
    let inside : k < length row = c.loop-x-test.true in
    let x = get_or row k (pos 0) in
    let same = to_z-of_z w64 x (fits_if_long x (c.values_of-x-items.ensures.long k (pos 0) inside)) in
    let mid = c.loop-x.reached in
    let new = c.count_integer-reached.result in
    let seen = λ (i : ℕ). list_any (λ z. is_held g z i) (take k row) in
    let held = is_held g x in
    let counted : HaveCounted (λ i. nat_le mid i && held i) values c.loop-x.cells c.count_integer-reached.new.cells = subst (λ (z : ℤ). HaveCounted (λ i. nat_le mid i && is_held g z i) values c.loop-x.cells c.count_integer-reached.new.cells) same c.count_integer-reached.ensures.counted in
    let reached : IsReached (λ i. nat_le mid i && held i) mid new = subst (λ (z : ℤ). IsReached (λ i. nat_le mid i && is_held g z i) mid new) same c.count_integer-reached.ensures.reached in
    let order = later_gaps g few row k c.values_of-x-items.ensures.ascending inside in
    let before = c.loop-x.invariant.reached in
    let more = λ (i : ℕ). list_any_more (λ z. is_held g z i) row k (pos 0) inside in
    record {
      counted = counted_same (λ i. seen i || (nat_le mid i && held i)) (λ i. list_any (λ z. is_held g z i) (take (k + 1) row)) values c.args.cells.now c.count_integer-reached.new.cells
          (λ i l. more i ∙ sym (either_counted seen held mid new before reached order i))
          (both_counted values seen (λ i. nat_le mid i && held i) c.args.cells.now c.loop-x.cells c.count_integer-reached.new.cells (counted_apart seen held mid new before reached order) c.loop-x.invariant.counted counted);
      reached = alike_reached (λ i. seen i || held i) (λ i. list_any (λ z. is_held g z i) (take (k + 1) row)) 0 new (λ i. sym (more i)) (reached_more seen held mid new before reached order);
    }

pub returns : goal.returns
returns c =
    let g = range_view c.args.self.now.range.now in
    let values = map stat_value_view c.args.values.now in
    let row = c.values_of-x-items.result.now in
    let k = c.loop-x.x-index in
    let all : take k row ≡ row = take_all k row (omega arith) in
    counted_same (λ i. list_any (λ z. is_held g z i) (take k row)) (λ i. list_any (in_gap g i) (get_or c.args.self.now.column.now c.args.at [])) values c.args.cells.now c.loop-x.cells
    (λ i l. ap (list_any (in_gap g i)) (sym c.values_of-x-items.ensures.values) ∙ sym (ap (list_any (λ z. is_held g z i)) all ∙ any_held g row i (let bound = c.requires.bound in omega (arith, l, bound)))) c.loop-x.invariant.counted
