use Rattle.std.proofs.Common.{◌<◌, ◌+◌, ◌-◌, ◌∙◌, map, length, get_or, take, sym, ap, subst, arith}
use Rattle.fc_lists.specs.Among.{is_among}
use Rattle.fc_partial.specs.Adding.{AddUp}
use Rattle.fc_partial.specs.Celled.{of_one}
use Rattle.fc_partial.specs.View.{stat_value_view}
use Rattle.fc_count.specs.Counted.{HaveCounted}
use Rattle.fc_terms.proofs.CountedTerms.{term_before, term_counted, term_held, term_passed}
use Rattle.fc_terms.proofs.numbers.TermSpanNumbering.count.Goals as goal
use Rattle.fc_terms.proofs.numbers.TermSpanNumbering.count.Goals.{then-self-ord+then-ord-self, else-self-ord, else-self-ord-via-then-self-ord+else-ord-self, else-self-ord-via-else-self-ord}

pub add-requires-clause-fits : goal.add-requires-clause-fits
add-requires-clause-fits c =
    let row = c.ordinals_of-ord-items.result.now in
    let n = c.loop-ord.ord-index in
    let from = c.args.self.now.from in
    let to = c.args.self.now.to in
    let values = map stat_value_view c.args.values.now in
    let old = c.args.cells.now in
    let x = get_or row n 0 in
    let low = c.if-self-ord.true in
    let high = c.if-ord-self.true in
    let below : n < length row = omega arith in
    let held = ap (is_among _) (sym c.ordinals_of-ord-items.ensures.ordinals) ∙ term_held row from to n below values old c.loop-ord.cells c.requires.bound c.loop-ord.invariant c.ordinals_of-ord-items.ensures.ascending low high in
    subst (λ cell. AddUp cell (of_one values)) (sym (term_before row from to n below values old c.loop-ord.cells c.requires.bound c.loop-ord.invariant c.ordinals_of-ord-items.ensures.ascending low high))
    (c.requires.fits (x - from) (omega arith) held)

pub loop-ord-preserved : goal.loop-ord-preserved
loop-ord-preserved c =
    let row = c.ordinals_of-ord-items.result.now in
    let n = c.loop-ord.ord-index in
    let from = c.args.self.now.from in
    let to = c.args.self.now.to in
    let values = map stat_value_view c.args.values.now in
    let old = c.args.cells.now in
    let below : n < length row = omega arith in
    elim c.if-self-ord.branch [
      | then-self-ord+then-ord-self w ↦
          subst (HaveCounted (λ i. is_among (from + i) (take (n + 1) row)) values old) (sym (w.cells-is ∙ w.add.ensures))
          (term_counted row from to n below values old c.loop-ord.cells c.requires.bound c.loop-ord.invariant c.ordinals_of-ord-items.ensures.ascending w.if-self-ord.true w.if-ord-self.true)
      | else-self-ord w ↦
          subst (HaveCounted (λ i. is_among (from + i) (take (n + 1) row)) values old) (sym w.cells-is)
          (term_passed row from to n below values old c.loop-ord.cells c.requires.bound c.loop-ord.invariant (λ low high. elim w.else-self-ord.branch [
            | else-self-ord-via-then-self-ord+else-ord-self w' ↦ absurd (omega arith)
            | else-self-ord-via-else-self-ord w' ↦ absurd (omega arith)
          ]))
    ]
