use Rattle.std.proofs.Common.{◌≡◌, ◌/◌, ◌<◌, cond, Some, None, length, get_or, sym, ap, ◌∙◌, arith, rules}
use Rattle.fc_spec.proofs.documents.WordBits.{has_bit_past}
use Rattle.fc_lists.specs.Ranks.{bits_below}
use Rattle.fc_lists.proofs.BitRanks.{bit_is_0, bit_is_1, rank_is, bits_below-le}
use Rattle.fc_lists.proofs.bits.rank.Goals as goal

pub returns-in_err-word : goal.returns-in_err-word
returns-in_err-word c =
    let words = c.args.words.now in
    let at = c.args.at in
    let past = c.in_err-word.ensures.lookup.3 in
    c.from_residual.ensures ∙ sym (ap (λ b. cond b (Some (bits_below at words)) None) (has_bit_past words at past))

pub returns-then-word-bit-eq0 : goal.returns-then-word-bit-eq0
returns-then-word-bit-eq0 c =
    let words = c.args.words.now in
    let at = c.args.at in
    let word : c.in_ok-word.field-0.now ≡ get_or words (at / 64) 0 = search rules in
    sym (ap (λ b. cond b (Some (bits_below at words)) None) (bit_is_0 words at (rw word at c.if-word-bit-eq0.true)))

pub overflow_add-result : goal.overflow_add-result
overflow_add-result c =
    let words = c.args.words.now in
    let at = c.args.at in
    let word : c.in_ok-word.field-0.now ≡ get_or words (at / 64) 0 = search rules in
    let within : at / 64 < length words = search rules in
    let sum = rank_is words at (get_or c.args.before.now (at / 64) 0) (c.requires.before (at / 64) within) in
    let most = bits_below-le at words in
    rw (word, sum) (record { fits = omega (arith, most) })

pub returns : goal.returns
returns c =
    let words = c.args.words.now in
    let at = c.args.at in
    let word : c.in_ok-word.field-0.now ≡ get_or words (at / 64) 0 = search rules in
    let within : at / 64 < length words = search rules in
    let sum = rank_is words at (get_or c.args.before.now (at / 64) 0) (c.requires.before (at / 64) within) in
    rw (word, sum) (sym (ap (λ b. cond b (Some (bits_below at words)) None) (bit_is_1 words at (rw word at c.if-word-bit-eq0.false))))
