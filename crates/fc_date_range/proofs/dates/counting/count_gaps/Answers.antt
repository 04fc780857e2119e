use Rattle.std.proofs.Common.{◌≡◌, ◌≤◌, ◌<◌, ◌+◌, ◌∙◌, ◌||◌, ◌==◌, ℕ, true, false, length, map, subst, sym, arith, rules}
use Rattle.fc_spec.specs.requests.DateGaps.{in_date_gap}
use Rattle.fc_facet.specs.KindView.{date_range_view}
use Rattle.fc_partial.specs.Adding.{AddUp}
use Rattle.fc_partial.specs.Celled.{counted, of_one}
use Rattle.fc_partial.specs.View.{stat_value_view}
use Rattle.fc_count.proofs.CountedSteps.{counted_before, counted_more, counted_none, counted_same}
use Rattle.fc_range.proofs.GapSteps.{all_passed, none_passed, not_passed, one_passed, passed, reached_one, reached_same, same_passed}
use Rattle.fc_range.proofs.Reached.{alike_reached, none_reached}
use Rattle.fc_date_range.proofs.dates.counting.count_gaps.Goals as goal
use Rattle.fc_date_range.proofs.dates.counting.count_gaps.Goals.{then-is_in_gap, else-is_in_gap}

pub add-requires-clause-fits : goal.add-requires-clause-fits
add-requires-clause-fits c =
    let values = map stat_value_view c.args.values.now in
    let p = λ (i : ℕ). in_date_gap (date_range_view c.args.range.now) i c.args.date.now in
    let n = c.loop-number.number in
    let from : c.args.from ≤ n = search rules in
    let below : n < c.args.to = search rules in
    let here : n < length c.args.cells.now.cells = let all = c.requires.all in let within = c.requires.within in omega arith in
    let passes : p n ≡ true = sym c.is_in_gap.ensures ∙ c.if-is_in_gap.true in
    subst (λ s. AddUp s (of_one values)) (sym (counted_before (passed p c.args.from n) values c.args.cells.now c.loop-number.cells n c.loop-number.invariant.counted (not_passed p c.args.from n n (omega arith)) here))
    (c.requires.fits n from below passes)

pub loop-number-preserved : goal.loop-number-preserved
loop-number-preserved c =
    let values = map stat_value_view c.args.values.now in
    let p = λ (i : ℕ). in_date_gap (date_range_view c.args.range.now) i c.args.date.now in
    let f = c.args.from in
    let n = c.loop-number.number in
    let from : f ≤ n = search rules in
    let below : n < c.args.to = search rules in
    let here : n < length c.args.cells.now.cells = let all = c.requires.all in let within = c.requires.within in omega arith in
    let before = c.loop-number.invariant.counted in
    let fresh = not_passed p f n n (omega arith) in
    let empty : c.args.to < f → n + 1 ≡ f = λ h. absurd (omega arith) in
    elim c.if-is_in_gap.branch [
      | then-is_in_gap w ↦
          let passes : p n ≡ true = sym c.is_in_gap.ensures ∙ w.if-is_in_gap.true in
          record {
            counted = rw (w.cells-is, w.add.ensures) (counted_same (λ i. passed p f n i || (i == n)) (passed p f (n + 1)) values c.args.cells.now (counted c.loop-number.cells n values)
                (λ i l. one_passed p f n from passes i) (counted_more (passed p f n) values c.args.cells.now c.loop-number.cells n before fresh here));
            reached = rw w.last-is (reached_one p f c.args.reached c.loop-number.last n c.requires.behind from passes c.loop-number.invariant.reached);
            empty = empty;
          }
      | else-is_in_gap w ↦
          let fails : p n ≡ false = sym c.is_in_gap.ensures ∙ w.if-is_in_gap.false in
          record {
            counted = rw w.cells-is (counted_same (passed p f n) (passed p f (n + 1)) values c.args.cells.now c.loop-number.cells (λ i l. same_passed p f n fails i) before);
            reached = rw w.last-is (reached_same p f c.args.reached c.loop-number.last n fails c.loop-number.invariant.reached);
            empty = empty;
          }
    ]

pub loop-number-init : goal.loop-number-init
loop-number-init c =
    let values = map stat_value_view c.args.values.now in
    let p = λ (i : ℕ). in_date_gap (date_range_view c.args.range.now) i c.args.date.now in
    let f = c.args.from in
    record {
      counted = counted_same (λ i. false) (passed p f f) values c.args.cells.now c.args.cells.now (λ i l. none_passed p f f i (omega arith)) (counted_none values c.args.cells.now);
      reached = none_reached (passed p f f) c.args.reached (λ i. none_passed p f f i (omega arith));
      empty = λ h. search rules;
    }

pub returns-clause-counted : goal.returns-clause-counted
returns-clause-counted c =
    let p = λ (i : ℕ). in_date_gap (date_range_view c.args.range.now) i c.args.date.now in
    let f = c.args.from in
    let n = c.loop-number.number in
    let most : c.args.to ≤ n = search rules in
    counted_same (passed p f n) (passed p f c.args.to) (map stat_value_view c.args.values.now) c.args.cells.now c.loop-number.cells
    (λ i l. sym (all_passed p f n c.args.to most c.loop-number.auto.number-end c.loop-number.invariant.empty i)) c.loop-number.invariant.counted

pub returns-clause-reached : goal.returns-clause-reached
returns-clause-reached c =
    let p = λ (i : ℕ). in_date_gap (date_range_view c.args.range.now) i c.args.date.now in
    let f = c.args.from in
    let n = c.loop-number.number in
    let most : c.args.to ≤ n = search rules in
    alike_reached (passed p f n) (passed p f c.args.to) c.args.reached c.loop-number.last
    (λ i. all_passed p f n c.args.to most c.loop-number.auto.number-end c.loop-number.invariant.empty i) c.loop-number.invariant.reached
