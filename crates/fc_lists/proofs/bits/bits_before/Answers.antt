use Rattle.std.proofs.Common.{◌≡◌, ◌*◌, length, map, take, sum, sum_by, count_ones, sym, ap, ◌∙◌, arith, rules}
use Rattle.std.proofs.lemmas.List.{take_all, take-map, length-map}
use Rattle.std.proofs.lemmas.List.Sums.{sum-map}
use Rattle.fc_lists.specs.Ranks.{bits_below}
use Rattle.fc_lists.proofs.BitRanks.{bits_below-words}
use Rattle.fc_lists.proofs.bits.bits_before.Goals as goal

pub running_sums-requires : goal.running_sums-requires
running_sums-requires c =
    let words = c.args.words.now in
    let ones : c.deref.result.now ≡ map count_ones words = search rules in
    let all = bits_below-words words (length words) (λ i. omega (arith, c.type_inv.words i)) (omega arith) in
    let total : sum (map count_ones words) ≡ bits_below (64 * length words) words =
    sum-map count_ones words ∙ sym (all ∙ ap (λ l. sum_by count_ones l) (take_all (length words) words (omega arith))) in
    rw (ones, total) c.requires

pub returns-clause-len : goal.returns-clause-len
returns-clause-len c =
    let words = c.args.words.now in
    let ones : c.deref.result.now ≡ map count_ones words = search rules in
    omega (arith, c.in_ok-before.ensures.len, ap length ones, length-map words count_ones)

pub returns-clause-counts : goal.returns-clause-counts
returns-clause-counts c = λ i within.
    let words = c.args.words.now in
    let ones : c.deref.result.now ≡ map count_ones words = search rules in
    c.in_ok-before.ensures.sums i (omega (arith, ap length ones, length-map words count_ones))
    ∙ ap (λ l. sum (take i l)) ones ∙ ap sum (take-map count_ones i words) ∙ sum-map count_ones (take i words)
    ∙ sym (bits_below-words words i (λ k. omega (arith, c.type_inv.words k)) within)
