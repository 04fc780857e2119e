use Rattle.std.proofs.Common.{◌≡◌, ◌∙◌, ◌++◌, ◌∷◌, ◌<◌, All, length, sym, ap, subst, arith, append_assoc, []}
use Rattle.fc_count.specs.Counting.{Counting}
use Rattle.fc_terms.specs.Gathered.{AreGathered, countings_at, longs_at}
use Rattle.fc_terms.proofs.GatheredPlaces.{gathered_more, next_within, there_more}
use Rattle.fc_terms.proofs.LongRuns.{longs_apart}
use Rattle.fc_terms.proofs.long_runs.long_countings.Goals as goal

pub values_of-requires : goal.values_of-requires
values_of-requires c =
    let at = c.in-Some.at in
    let here = next_within c.args.docs.now c.loop-at.yielded at c.next.new.self (rw c.in-Some.ensures.steps at c.loop-at.invariant.left) in
    omega (arith, here, c.requires.length)

pub loop-at-preserved : goal.loop-at-preserved
loop-at-preserved c =
    let at = c.in-Some.at in
    let column = c.args.column.now in
    let split = rw c.in-Some.ensures.steps at c.loop-at.invariant.left in
    let here = next_within c.args.docs.now c.loop-at.yielded at c.next.new.self split in
    let pushed : c.push_longs.new.into ≡ c.loop-at.countings ++ countings_at at (longs_at column at) = c.in_ok-push_longs.ensures ∙ ap (λ l. c.loop-at.countings ++ countings_at at l) c.values_of.ensures.values in
    record {
      gathered = subst (AreGathered (longs_at column) _) (sym pushed)
          (gathered_more (longs_at column) c.loop-at.yielded c.loop-at.countings at (longs_apart (longs_at column at) (rw c.values_of.ensures.values at c.values_of.ensures.ascending)) c.loop-at.invariant.gathered);
      there = subst (All (λ (x : Counting). x.at < length column)) (sym pushed)
          (there_more (length column) c.loop-at.countings at (longs_at column at) (omega (arith, here, c.requires.length)) c.loop-at.invariant.there);
      left = append_assoc c.loop-at.yielded (at ∷ []) c.next.new.self ∙ split;
    }
