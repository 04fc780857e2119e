use Rattle.std.proofs.Common.{◌∙◌, ap, drop, [], ◌∷◌, ◌+◌, arith}
use Rattle.std.specs.Prelude.{nat_abs, sum_by}
use Rattle.std.proofs.lemmas.Int.{ints}
use Rattle.fc_spec.specs.requests.Statistics.{total_of}
use Rattle.fc_spec.proofs.requests.LeastAndGreatest.{total_of-append}
use Rattle.fc_lane.specs.Masked.{masked}
use Rattle.fc_lane.proofs.MaskedParts.{sum_of_parts, masked-turn, masked-end}
use Rattle.fc_lane.proofs.PickedTotals.{masked_size}
use Rattle.fc_lane.proofs.masked.masked_sum.Goals as goal

pub sum_of_word-sum-requires-clause-small : goal.sum_of_word-sum-requires-clause-small
sum_of_word-sum-requires-clause-small c =
    let all = sum_of_parts nat_abs c.loop-word.rest.now in
    let part = ap (sum_by nat_abs) c.next_part.ensures.part in
    omega arith

pub overflow_add-sum : goal.overflow_add-sum
overflow_add-sum c =
    let all = sum_of_parts nat_abs c.loop-word.rest.now in
    let part = ap (sum_by nat_abs) c.next_part.ensures.part in
    let size = masked_size (c.bits_below.result ∷ []) c.next_part.result.0.now in
    omega (arith, ints)

pub loop-word-preserved : goal.loop-word-preserved
loop-word-preserved c =
    let i = c.loop-word.word-index in
    let mask = c.args.mask.now in
    let rest = c.loop-word.rest.now in
    let part = c.next_part.result.0.now in
    let behind = c.next_part.result.1.now in
    let word = c.bits_below.result in
    let all = sum_of_parts nat_abs rest in
    let in_part = ap (sum_by nat_abs) c.next_part.ensures.part in
    let in_behind = ap (sum_by nat_abs) c.next_part.ensures.behind in
    let size = masked_size (word ∷ []) part in
    let turn = masked-turn mask i word rest part behind (omega arith) c.next_part.ensures.part c.next_part.ensures.behind c.bits_below.ensures in
    let total = ap total_of turn ∙ total_of-append (masked (word ∷ []) part) (masked (drop (i + 1) mask) behind) in
    record { total = omega (arith, ints); size = omega (arith, ints) }

pub returns : goal.returns
returns c =
    let none = ap total_of (masked-end c.args.mask.now c.loop-word.word-index c.loop-word.rest.now (omega arith)) in
    omega (arith, ints)
