use Rattle.std.proofs.Common.{◌≡◌, ◌≤◌, ◌*◌, length, get_or, sum_by, count_ones, ap, ◌∙◌, arith}
use Rattle.std.proofs.lemmas.List.{take_all}
use Rattle.std.proofs.lemmas.List.Elements.{All-from_get_or}
use Rattle.std.proofs.lemmas.List.Sums.{sum_by-le, sum_by_more_le}
use Rattle.std.proofs.lemmas.Nat.{ones-le}
use Rattle.fc_lane.proofs.WholeWords.{count_by-all_bits}
use Rattle.fc_lane.proofs.words.count_bits.Goals as goal

pub overflow_add-count : goal.overflow_add-count
overflow_add-count c =
    let words = c.args.words.now in
    let i = c.loop-word.word-index in
    let few : sum_by count_ones words ≤ length words * 64 = sum_by-le count_ones 64 words (All-from_get_or (λ word. count_ones word ≤ 64) words 0 (λ k within. ones-le 64 (get_or words k 0) (c.type_inv.words k).fits)) in
    let more = sum_by_more_le count_ones words i 0 c.loop-word-test.true in
    record { fits = omega (arith, few, more, c.loop-word.invariant, c.from-count.ensures) }

pub returns : goal.returns
returns c =
    let words = c.args.words.now in
    let summed : c.loop-word.count ≡ sum_by count_ones words = c.loop-word.invariant ∙ ap (sum_by count_ones) (take_all c.loop-word.word-index words (omega arith)) in
    summed ∙ count_by-all_bits words (λ k. (c.type_inv.words k).fits)
