use Rattle.std.proofs.Common.{◌≡◌, ◌*◌, ◌/◌, ◌%◌, ◌-◌, ◌^◌, ◌≤◌, length, get_or, bit_and, refl, ap, ◌∙◌, arith, rules}
use Rattle.std.specs.Int.Bits.{and_zero_l}
use Rattle.std.proofs.lemmas.List.{get_or_past}
use Rattle.std.proofs.lemmas.Nat.{ones_le_self}
use Rattle.fc_lists.specs.Ranks.{bits_below}
use Rattle.fc_lists.proofs.BitRanks.{rank_is}
use Rattle.fc_lists.proofs.bits.low_ones.Goals as goal

pub returns-in-Some : goal.returns-in-Some
returns-in-Some c =
    let words = c.args.words.now in
    let at = c.args.at in
    let word : c.in-Some.word.now ≡ get_or words (at / 64) 0 = search rules in
    rw word (rank_is words at (bits_below (64 * (at / 64)) words) refl)

pub returns-in-None : goal.returns-in-None
returns-in-None c =
    let words = c.args.words.now in
    let at = c.args.at in
    let below = 1 * 2 ^ (at % 64) % 2 ^ 64 - 1 in
    let past : length words ≤ at / 64 = search rules in
    let none = ap (λ w. bit_and w below) (get_or_past words (at / 64) 0 past) ∙ and_zero_l below in
    omega (arith, none, ones_le_self (bit_and (get_or words (at / 64) 0) below), rank_is words at (bits_below (64 * (at / 64)) words) refl)
