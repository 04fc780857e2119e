use Rattle.std.proofs.Common.{◌≡◌, ◌∙◌, ◌++◌, [], ◌∷◌, ◌<◌, All, length, get_or, sym, ap, subst, arith, append_assoc}
use Rattle.std.specs.List.Sorted.{IsStrictlyIncreasing}
use Rattle.fc_column.specs.Terms.{ordinals_in}
use Rattle.fc_count.specs.Counting.{Counting}
use Rattle.fc_terms.specs.Gathered.{AreGathered, countings_at, ordinals_above, terms_at}
use Rattle.fc_terms.specs.TermSpan.{IsTermNumber}
use Rattle.fc_terms.proofs.GatheredPlaces.{gathered_more, next_within, numbers_more, there_more}
use Rattle.fc_terms.proofs.TermRuns.{ordinals_apart, ordinals_numbered}
use Rattle.fc_terms.proofs.text_runs.term_countings.Goals as goal

pub ordinals_of-requires : goal.ordinals_of-requires
ordinals_of-requires c =
    let at = c.in-Some.at in
    let here = next_within c.args.docs.now c.loop-at.yielded at c.next.new.self (rw c.in-Some.ensures.steps at c.loop-at.invariant.left) in
    omega (arith, here, c.requires.length)

pub loop-at-preserved : goal.loop-at-preserved
loop-at-preserved c =
    let at = c.in-Some.at in
    let column = c.args.column.now in
    let from = c.args.span.0 in
    let to = c.args.span.1 in
    let before = c.loop-at.countings in
    let row = terms_at column from to at in
    let split = rw c.in-Some.ensures.steps at c.loop-at.invariant.left in
    let here = next_within c.args.docs.now c.loop-at.yielded at c.next.new.self split in
    let pushed : c.push_ordinals.new.into ≡ before ++ countings_at at row = c.in_ok-push_ordinals.ensures ∙ ap (λ l. before ++ countings_at at (ordinals_above from to l)) c.ordinals_of.ensures.ordinals in
    let up = subst IsStrictlyIncreasing c.ordinals_of.ensures.ordinals c.ordinals_of.ensures.ascending in
    let ords = ordinals_in column (get_or column at []) in
    record {
      gathered = subst (AreGathered (terms_at column from to) _) (sym pushed)
          (gathered_more (terms_at column from to) c.loop-at.yielded before at (ordinals_apart from to ords up) c.loop-at.invariant.gathered);
      there = subst (All (λ (x : Counting). x.at < length column)) (sym pushed)
          (there_more (length column) before at row (omega (arith, here, c.requires.length)) c.loop-at.invariant.there);
      numbers = subst (All (λ (x : Counting). IsTermNumber column from to x.number)) (sym pushed)
          (numbers_more (IsTermNumber column from to) before at row (ordinals_numbered column from to ords c.requires.within) c.loop-at.invariant.numbers);
      left = append_assoc c.loop-at.yielded (at ∷ []) c.next.new.self ∙ split;
    }
