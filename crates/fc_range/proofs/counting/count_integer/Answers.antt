use Rattle.std.proofs.Common.{◌≡◌, ◌∙◌, ◌&&◌, ◌==◌, ℕ, ℤ, false, map, ap, sym, subst, w64, eq-eqb, refl, rules}
use Rattle.std.specs.Prelude.{nat_le}
use Rattle.std.proofs.lemmas.Int.{to_z-of_z}
use Rattle.fc_spec.specs.requests.Gaps.{gap_count, in_gap}
use Rattle.fc_facet.specs.KindView.{range_view}
use Rattle.fc_range.proofs.NearGaps.{none_below}
use Rattle.fc_partial.specs.View.{stat_value_view}
use Rattle.fc_count.specs.Counted.{HaveCounted}
use Rattle.fc_count.proofs.CountedSteps.{counted_none, counted_same}
use Rattle.fc_range.specs.Reached.{IsReached, is_held}
use Rattle.fc_range.proofs.GapInside.{held_alone}
use Rattle.fc_range.proofs.GapSteps.{not_there}
use Rattle.fc_range.proofs.Reached.{alike_reached, none_reached}
use Rattle.fc_range.proofs.counting.count_integer.Goals as goal

pub returns-then-x-range-clause-counted : goal.returns-then-x-range-clause-counted
returns-then-x-range-clause-counted c =
    let g = range_view c.args.range.now in
    let values = map stat_value_view c.args.values.now in
    counted_same (λ i. false) (λ i. nat_le c.args.reached i && is_held g c.args.x i) values c.args.cells.now c.args.cells.now
    (λ i l. not_there (gap_count g) (λ k. in_gap g k c.args.x) c.args.reached i (none_below g c.requires.few i c.args.x (search rules))) (counted_none values c.args.cells.now)

pub returns-then-x-range-clause-reached : goal.returns-then-x-range-clause-reached
returns-then-x-range-clause-reached c =
    let g = range_view c.args.range.now in
    none_reached (λ i. nat_le c.args.reached i && is_held g c.args.x i) c.args.reached (λ i. not_there (gap_count g) (λ k. in_gap g k c.args.x) c.args.reached i (none_below g c.requires.few i c.args.x (search rules)))

pub count_alone-requires-clause-fits : goal.count_alone-requires-clause-fits
count_alone-requires-clause-fits c = λ behind.
    let g = range_view c.args.range.now in
    let n = c.in-Some.number in
    let same = to_z-of_z w64 c.args.x c.ranges.x in
    let alone = subst (λ (z : ℤ). (i : ℕ) → in_gap g i z ≡ (i == n)) same c.in-Some.ensures.alone in
    c.requires.fits n behind (held_alone g c.args.x n c.in-Some.ensures.there alone n ∙ eq-eqb n n refl)

pub returns-in-Some-clause-counted : goal.returns-in-Some-clause-counted
returns-in-Some-clause-counted c =
    let g = range_view c.args.range.now in
    let n = c.in-Some.number in
    let same = to_z-of_z w64 c.args.x c.ranges.x in
    let alone = subst (λ (z : ℤ). (i : ℕ) → in_gap g i z ≡ (i == n)) same c.in-Some.ensures.alone in
    counted_same (λ i. nat_le c.args.reached i && (i == n)) (λ i. nat_le c.args.reached i && is_held g c.args.x i) (map stat_value_view c.args.values.now) c.args.cells.now c.count_alone.new.cells
    (λ i l. ap (λ b. nat_le c.args.reached i && b) (held_alone g c.args.x n c.in-Some.ensures.there alone i)) c.count_alone.ensures.counted

pub returns-in-Some-clause-reached : goal.returns-in-Some-clause-reached
returns-in-Some-clause-reached c =
    let g = range_view c.args.range.now in
    let n = c.in-Some.number in
    let same = to_z-of_z w64 c.args.x c.ranges.x in
    let alone = subst (λ (z : ℤ). (i : ℕ) → in_gap g i z ≡ (i == n)) same c.in-Some.ensures.alone in
    alike_reached (λ i. nat_le c.args.reached i && (i == n)) (λ i. nat_le c.args.reached i && is_held g c.args.x i) c.args.reached c.count_alone.result
    (λ i. ap (λ b. nat_le c.args.reached i && b) (sym (held_alone g c.args.x n c.in-Some.ensures.there alone i))) c.count_alone.ensures.reached

pub returns-in-None-clause-counted : goal.returns-in-None-clause-counted
returns-in-None-clause-counted c =
    let g = range_view c.args.range.now in
    subst (λ (z : ℤ). HaveCounted (λ i. nat_le c.args.reached i && is_held g z i) (map stat_value_view c.args.values.now) c.args.cells.now c.count_near.new.cells)
    (to_z-of_z w64 c.args.x c.ranges.x) c.count_near.ensures.counted

pub returns-in-None-clause-reached : goal.returns-in-None-clause-reached
returns-in-None-clause-reached c =
    let g = range_view c.args.range.now in
    subst (λ (z : ℤ). IsReached (λ i. nat_le c.args.reached i && is_held g z i) c.args.reached c.count_near.result)
    (to_z-of_z w64 c.args.x c.ranges.x) c.count_near.ensures.reached
