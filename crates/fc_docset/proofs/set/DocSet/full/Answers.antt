use Rattle.std.proofs.Common.{◌≡◌, ◌-◌, ◌^◌, true, replicate, ap, ◌∙◌, arith, rules}
use Rattle.fc_spec.specs.documents.Bits.{has_bit}
use Rattle.fc_spec.proofs.documents.WordBits.{has_bit_of_ones}
use Rattle.fc_lane.proofs.BitLists.{first_bits_all}
use Rattle.fc_docset.proofs.set.DocSet.full.Goals as goal

pub returns : goal.returns
returns c =
    let words = c.in_ok-words.words in
    let ones : words.items ≡ replicate c.word_count.result (2 ^ 64 - 1) = search rules in
    c.within.ensures ∙ first_bits_all c.args.len words.items true
    (λ k within. ap (λ l. has_bit l k) ones ∙ has_bit_of_ones c.word_count.result k (omega arith))
