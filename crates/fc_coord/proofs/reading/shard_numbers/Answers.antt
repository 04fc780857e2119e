use Rattle.std.proofs.Common.{◌≡◌, ◌∙◌, ◌+◌, ◌-◌, ◌<◌, ◌++◌, ◌∷◌, [], List, ℕ, suc, ap, sym, subst, append_assoc, arith, rules}
use Rattle.std.specs.List.{range_with_len}
use Rattle.fc_spec.specs.words.Lists.{numbers_below}
use Rattle.fc_reading.specs.Distinct.{AreDistinct}
use Rattle.fc_reading.proofs.DistinctShards.{distinct_numbers}
use Rattle.fc_coord.proofs.reading.shard_numbers.Goals as goal

one_more : (xs : List ℕ) (n end : ℕ) → n < end → (xs ++ n ∷ []) ++ range_with_len (n + 1) (end - (n + 1)) ≡ xs ++ range_with_len n (end - n)
one_more xs n end h =
    let e : suc (end - (n + 1)) ≡ end - n = omega arith in
    append_assoc xs (n ∷ []) (range_with_len (n + 1) (end - (n + 1))) ∙ ap (λ m. xs ++ range_with_len n m) e

pub loop-number-preserved : goal.loop-number-preserved
loop-number-preserved c =
    let number = c.loop-number.number in
    let end = c.args.shards in
    ap (λ xs. xs ++ range_with_len (number + 1) (end - (number + 1))) c.in_ok-push.ensures.items
    ∙ one_more c.loop-number.numbers.items number end c.loop-number-test.true ∙ c.loop-number.invariant

pub returns-clause-distinct : goal.returns-clause-distinct
returns-clause-distinct c =
    let all : c.loop-number.numbers.items ≡ numbers_below c.args.shards = search rules in
    subst AreDistinct (sym all) (distinct_numbers c.args.shards)
