use Rattle.std.proofs.Common.{◌≡◌, ◌<◌, ◌+◌, ◌∙◌, ◌&&◌, ◌||◌, ℕ, [], true, false, length, get_or, map, take, subst, sym, ap, arith, rules}
use Rattle.std.specs.List.{list_any}
use Rattle.std.specs.Prelude.{nat_le}
use Rattle.std.proofs.lemmas.List.{take_all}
use Rattle.std.proofs.lemmas.List.Folds.{list_any_at, list_any_more}
use Rattle.fc_spec.specs.documents.Val.{Text}
use Rattle.fc_spec.specs.requests.DateGaps.{date_gap_count, in_date_gap}
use Rattle.fc_facet.specs.KindView.{date_range_view}
use Rattle.fc_partial.specs.Adding.{AddUp}
use Rattle.fc_partial.specs.Celled.{of_one}
use Rattle.fc_partial.specs.View.{stat_value_view}
use Rattle.fc_count.specs.Counted.{HaveCounted}
use Rattle.fc_count.proofs.CountedSteps.{counted_before, counted_none, counted_same}
use Rattle.fc_range.proofs.CountedOnce.{both_counted}
use Rattle.fc_date_range.proofs.DateRows.{any_held, has_term, later_gaps, term_at}
use Rattle.fc_range.proofs.GapSteps.{there_parts}
use Rattle.fc_range.proofs.Reached.{alike_reached, counted_apart, either_counted, none_reached, reached_more}
use Rattle.fc_range.specs.Reached.{IsReached}
use Rattle.fc_date_range.specs.GapDates.{has_date}
use Rattle.fc_date_range.proofs.dates.GapDatesNumbering.count.Goals as goal

pub count_date-reached-requires-clause-fits : goal.count_date-reached-requires-clause-fits
count_date-reached-requires-clause-fits c = λ i behind held.
    let g = date_range_view c.args.self.now.range.now in
    let column = c.args.self.now.column.now in
    let values = map stat_value_view c.args.values.now in
    let row = c.ordinals_of-ord-items.result.now in
    let k = c.loop-ord.ord-index in
    let inside : k < length row = c.loop-ord-test.true in
    let x = get_or row k 0 in
    let has : has_term column g i x ≡ true = ap (λ t. has_date g t i) (sym c.term.ensures) ∙ held in
    let parts = there_parts (date_gap_count g) (λ n. in_date_gap g n (term_at column x)) i has in
    let there : i < date_gap_count g = parts.0 in
    let here : i < length c.args.cells.now.cells = let all = c.requires.bound in omega (arith, there, all) in
    let holds : list_any (has_term column g i) row ≡ true = list_any_at (has_term column g i) row k 0 inside has in
    subst (λ s. AddUp s (of_one values)) (sym (counted_before (λ j. list_any (has_term column g j) (take k row)) values c.args.cells.now c.loop-ord.cells i c.loop-ord.invariant.counted (c.loop-ord.invariant.reached.behind i behind) here))
    (c.requires.fits i there (sym (any_held g column c.args.at i c.requires.there there) ∙ ap (list_any (has_term column g i)) (sym c.ordinals_of-ord-items.ensures.ordinals) ∙ holds))

pub loop-ord-init : goal.loop-ord-init
loop-ord-init c = record {
  counted = counted_none (map stat_value_view c.args.values.now) c.args.cells.now;
  reached = none_reached (λ i. false) 0 (λ i. search rules);
}

pub loop-ord-preserved : goal.loop-ord-preserved
loop-ord-preserved c =
    let g = date_range_view c.args.self.now.range.now in
    let few = c.args.self.now.few in
    let column = c.args.self.now.column.now in
    let values = map stat_value_view c.args.values.now in
    let row = c.ordinals_of-ord-items.result.now in
    let k = c.loop-ord.ord-index in
    let inside : k < length row = c.loop-ord-test.true in
    let x = get_or row k 0 in
    let mid = c.loop-ord.reached in
    let new = c.count_date-reached.result in
    let seen = λ (i : ℕ). list_any (has_term column g i) (take k row) in
    let held = λ (i : ℕ). has_term column g i x in
    let counted : HaveCounted (λ i. nat_le mid i && held i) values c.loop-ord.cells c.count_date-reached.new.cells = subst (λ (t : Text). HaveCounted (λ i. nat_le mid i && has_date g t i) values c.loop-ord.cells c.count_date-reached.new.cells) c.term.ensures c.count_date-reached.ensures.counted in
    let reached : IsReached (λ i. nat_le mid i && held i) mid new = subst (λ (t : Text). IsReached (λ i. nat_le mid i && has_date g t i) mid new) c.term.ensures c.count_date-reached.ensures.reached in
    let order = later_gaps g column few row k c.ordinals_of-ord-items.ensures.ascending c.ordinals_of-ord-items.ensures.within inside in
    let before = c.loop-ord.invariant.reached in
    let more = λ (i : ℕ). list_any_more (has_term column g i) row k 0 inside in
    record {
      counted = counted_same (λ i. seen i || (nat_le mid i && held i)) (λ i. list_any (has_term column g i) (take (k + 1) row)) values c.args.cells.now c.count_date-reached.new.cells
          (λ i l. more i ∙ sym (either_counted seen held mid new before reached order i))
          (both_counted values seen (λ i. nat_le mid i && held i) c.args.cells.now c.loop-ord.cells c.count_date-reached.new.cells (counted_apart seen held mid new before reached order) c.loop-ord.invariant.counted counted);
      reached = alike_reached (λ i. seen i || held i) (λ i. list_any (has_term column g i) (take (k + 1) row)) 0 new (λ i. sym (more i)) (reached_more seen held mid new before reached order);
    }

pub returns : goal.returns
returns c =
    let g = date_range_view c.args.self.now.range.now in
    let column = c.args.self.now.column.now in
    let values = map stat_value_view c.args.values.now in
    let row = c.ordinals_of-ord-items.result.now in
    let k = c.loop-ord.ord-index in
    let all : take k row ≡ row = take_all k row (omega arith) in
    counted_same (λ i. list_any (has_term column g i) (take k row)) (λ i. list_any (in_date_gap g i) (get_or column c.args.at [])) values c.args.cells.now c.loop-ord.cells
    (λ i l. sym (ap (list_any (has_term column g i)) (all ∙ c.ordinals_of-ord-items.ensures.ordinals) ∙ any_held g column c.args.at i c.requires.there (let bound = c.requires.bound in omega (arith, l, bound)))) c.loop-ord.invariant.counted
