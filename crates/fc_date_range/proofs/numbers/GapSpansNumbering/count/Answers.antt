use Rattle.std.proofs.Common.{◌≡◌, ◌<◌, ◌+◌, ◌∙◌, ◌&&◌, ◌||◌, ℕ, true, length, get_or, map, take, subst, sym, ap, arith}
use Rattle.std.specs.List.{list_any}
use Rattle.std.specs.Prelude.{nat_le}
use Rattle.std.proofs.lemmas.List.{take_all}
use Rattle.std.proofs.lemmas.List.Folds.{list_any_at, list_any_more}
use Rattle.std.proofs.lemmas.List.Kept.{AllPairs-from_increasing}
use Rattle.fc_column.specs.Terms.{has_from_to}
use Rattle.fc_partial.specs.Adding.{AddUp}
use Rattle.fc_partial.specs.Celled.{of_one}
use Rattle.fc_partial.specs.View.{stat_value_view}
use Rattle.fc_count.proofs.CountedSteps.{counted_before, counted_none, counted_same}
use Rattle.fc_range.proofs.CountedOnce.{both_counted}
use Rattle.fc_date_range.proofs.Reached.{alike_reached, counted_apart, either_counted, held_there, none_reached, reached_more}
use Rattle.fc_date_range.specs.GapSpans.{has_in_span, is_held, span_at}
use Rattle.fc_date_range.specs.Reached.{AreReached}
use Rattle.fc_date_range.proofs.numbers.GapSpansNumbering.count.Goals as goal

pub count_ordinal-reached-requires-clause-within : goal.count_ordinal-reached-requires-clause-within
count_ordinal-reached-requires-clause-within c =
    let row = c.ordinals_of-ord-items.result.now in
    let k = c.loop-ord.ord-index in
    let inside : k < length row = c.loop-ord-test.true in
    (c.loop-ord.invariant.reached (get_or row k 0) (λ m before. AllPairs-from_increasing row c.ordinals_of-ord-items.ensures.ascending m k 0 before inside)).within

pub count_ordinal-reached-requires-clause-fits : goal.count_ordinal-reached-requires-clause-fits
count_ordinal-reached-requires-clause-fits c = λ i behind held.
    let spans = c.args.self.now.spans.now in
    let span = span_at spans i in
    let values = map stat_value_view c.args.values.now in
    let row = c.ordinals_of-ord-items.result.now in
    let k = c.loop-ord.ord-index in
    let inside : k < length row = c.loop-ord-test.true in
    let there : i < length spans = held_there spans (get_or row k 0) i held in
    let here : i < length c.args.cells.now.cells = let all = c.requires.bound in omega (arith, there, all) in
    let holds : list_any (λ ord. is_held spans ord i) row ≡ true = list_any_at (λ ord. is_held spans ord i) row k 0 inside held in
    let before = c.loop-ord.invariant.reached (get_or row k 0) (λ m earlier. AllPairs-from_increasing row c.ordinals_of-ord-items.ensures.ascending m k 0 earlier inside) in
    subst (λ s. AddUp s (of_one values)) (sym (counted_before (λ j. list_any (λ ord. is_held spans ord j) (take k row)) values c.args.cells.now c.loop-ord.cells i c.loop-ord.invariant.counted (before.behind i behind) here))
    (c.requires.fits i there (ap (has_from_to span.from span.past) (sym c.ordinals_of-ord-items.ensures.ordinals) ∙ holds))

pub loop-ord-init : goal.loop-ord-init
loop-ord-init c = record {
  counted = counted_none (map stat_value_view c.args.values.now) c.args.cells.now;
  reached = λ least above. none_reached c.args.self.now.spans.now least;
}

pub loop-ord-preserved : goal.loop-ord-preserved
loop-ord-preserved c =
    let spans = c.args.self.now.spans.now in
    let values = map stat_value_view c.args.values.now in
    let row = c.ordinals_of-ord-items.result.now in
    let k = c.loop-ord.ord-index in
    let inside : k < length row = c.loop-ord-test.true in
    let x = get_or row k 0 in
    let mid = c.loop-ord.reached in
    let new = c.count_ordinal-reached.result in
    let seen = λ (i : ℕ). list_any (λ ord. is_held spans ord i) (take k row) in
    let next = λ (i : ℕ). list_any (λ ord. is_held spans ord i) (take (k + 1) row) in
    let before : AreReached spans seen x mid = c.loop-ord.invariant.reached x (λ m earlier. AllPairs-from_increasing row c.ordinals_of-ord-items.ensures.ascending m k 0 earlier inside) in
    let step = c.count_ordinal-reached.ensures.reached in
    let more = λ (i : ℕ). list_any_more (λ ord. is_held spans ord i) row k 0 inside in
    record {
      counted = counted_same (λ i. seen i || (nat_le mid i && is_held spans x i)) next values c.args.cells.now c.count_ordinal-reached.new.cells
          (λ i l. more i ∙ sym (either_counted spans seen x mid new before step i))
          (both_counted values seen (λ i. nat_le mid i && is_held spans x i) c.args.cells.now c.loop-ord.cells c.count_ordinal-reached.new.cells (counted_apart spans seen x mid new before step) c.loop-ord.invariant.counted c.count_ordinal-reached.ensures.counted);
      reached = λ least above. alike_reached spans (λ i. seen i || is_held spans x i) next least new (λ i. sym (more i)) (reached_more spans seen x mid new before step least (above k (omega arith)));
    }

pub returns : goal.returns
returns c =
    let spans = c.args.self.now.spans.now in
    let column = c.args.self.now.column.now in
    let values = map stat_value_view c.args.values.now in
    let row = c.ordinals_of-ord-items.result.now in
    let k = c.loop-ord.ord-index in
    let all : take k row ≡ row = take_all k row (omega arith) in
    counted_same (λ i. list_any (λ ord. is_held spans ord i) (take k row)) (λ i. has_in_span column spans c.args.at i) values c.args.cells.now c.loop-ord.cells
    (λ i l. ap (λ ords. list_any (λ ord. is_held spans ord i) ords) (sym c.ordinals_of-ord-items.ensures.ordinals ∙ sym all)) c.loop-ord.invariant.counted
