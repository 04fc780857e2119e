use Rattle.std.proofs.Common.{◌≡◌, ◌<◌, ◌+◌, ◌∙◌, ◌+ℤ◌, ◌-ℤ◌, ◌≤ℤ◌, pos, nat_abs, map, length, get_or, take, sym, ap, subst, to_z, of_z, w64, arith, rules}
use Rattle.std.proofs.lemmas.Int.{ints}
use Rattle.fc_spec.specs.documents.Val.{long, has_val}
use Rattle.fc_partial.specs.Adding.{AddUp}
use Rattle.fc_partial.specs.Celled.{cell_at, counted, of_one}
use Rattle.fc_partial.specs.View.{stat_value_view}
use Rattle.fc_count.specs.Counted.{HaveCounted}
use Rattle.fc_terms.proofs.CountedIntegers.{integer_before, integer_counted, integer_held, integer_passed}
use Rattle.fc_terms.proofs.numbers.LongSpanNumbering.count.Goals as goal
use Rattle.fc_terms.proofs.numbers.LongSpanNumbering.count.Goals.{then-self-value+then-number-self, else-self-value, else-self-value-via-then-self-value+else-number-self, else-self-value-via-else-self-value}

pub add-requires-clause-fits : goal.add-requires-clause-fits
add-requires-clause-fits c =
    let row = c.values_of-value-items.result.now in
    let n = c.loop-value.value-index in
    let least = c.args.self.now.least in
    let bound = c.args.self.now.bound in
    let values = map stat_value_view c.args.values.now in
    let old = c.args.cells.now in
    let x = get_or row n (pos 0) in
    let below : n < length row = omega arith in
    let x_is : to_z w64 (of_z w64 x) ≡ x = search rules in
    let least_is : to_z w64 (of_z w64 least) ≡ least = search rules in
    let low : least ≤ℤ x = omega (arith, ints, c.if-self-value.true) in
    let number : c.abs_diff-number.result ≡ nat_abs (x -ℤ least) = c.abs_diff-number.ensures ∙ ap (λ z. nat_abs (z -ℤ to_z w64 (of_z w64 least))) x_is ∙ ap (λ z. nat_abs (x -ℤ z)) least_is in
    let high : nat_abs (x -ℤ least) < bound = subst (λ k. k < bound) number c.if-number-self.true in
    let held = ap (λ l. has_val (long (least +ℤ pos (nat_abs (x -ℤ least)))) (map long l)) (sym c.values_of-value-items.ensures.values) ∙ integer_held row least bound n (pos 0) below values old c.loop-value.cells c.requires.bound c.loop-value.invariant c.values_of-value-items.ensures.ascending low high in
    subst (λ k. AddUp (cell_at c.loop-value.cells.cells k) (of_one values)) (sym number)
    (subst (λ cell. AddUp cell (of_one values)) (sym (integer_before row least bound n (pos 0) below values old c.loop-value.cells c.requires.bound c.loop-value.invariant c.values_of-value-items.ensures.ascending low high))
    (c.requires.fits (nat_abs (x -ℤ least)) (omega (arith, ints)) held))

pub loop-value-preserved : goal.loop-value-preserved
loop-value-preserved c =
    let row = c.values_of-value-items.result.now in
    let n = c.loop-value.value-index in
    let least = c.args.self.now.least in
    let bound = c.args.self.now.bound in
    let values = map stat_value_view c.args.values.now in
    let old = c.args.cells.now in
    let x = get_or row n (pos 0) in
    let below : n < length row = omega arith in
    let x_is : to_z w64 (of_z w64 x) ≡ x = search rules in
    let least_is : to_z w64 (of_z w64 least) ≡ least = search rules in
    let number : c.abs_diff-number.result ≡ nat_abs (x -ℤ least) = c.abs_diff-number.ensures ∙ ap (λ z. nat_abs (z -ℤ to_z w64 (of_z w64 least))) x_is ∙ ap (λ z. nat_abs (x -ℤ z)) least_is in
    elim c.if-self-value.branch [
      | then-self-value+then-number-self w ↦
          let low : least ≤ℤ x = omega (arith, ints, w.if-self-value.true) in
          let high : nat_abs (x -ℤ least) < bound = subst (λ k. k < bound) number w.if-number-self.true in
          subst (HaveCounted (λ i. has_val (long (least +ℤ pos i)) (map long (take (n + 1) row))) values old) (sym (w.cells-is ∙ w.add.ensures ∙ ap (λ k. counted c.loop-value.cells k values) number))
          (integer_counted row least bound n (pos 0) below values old c.loop-value.cells c.requires.bound c.loop-value.invariant c.values_of-value-items.ensures.ascending low high)
      | else-self-value w ↦
          subst (HaveCounted (λ i. has_val (long (least +ℤ pos i)) (map long (take (n + 1) row))) values old) (sym w.cells-is)
          (integer_passed row least bound n (pos 0) below values old c.loop-value.cells c.requires.bound c.loop-value.invariant (λ low high. elim w.else-self-value.branch [
            | else-self-value-via-then-self-value+else-number-self w' ↦ absurd (omega (arith, ints, w'.if-number-self.false))
            | else-self-value-via-else-self-value w' ↦ absurd (omega (arith, ints, w'.if-self-value.false))
          ]))
    ]
