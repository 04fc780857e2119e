use Rattle.std.proofs.Common.{◌≡◌, false, replicate, ap, ◌∙◌, rules}
use Rattle.fc_spec.specs.documents.Bits.{has_bit}
use Rattle.fc_spec.proofs.documents.WordBits.{has_bit_of_zeros}
use Rattle.fc_lane.proofs.BitLists.{first_bits_all}
use Rattle.fc_docset.proofs.set.DocSet.empty.Goals as goal

pub invariant_of-result : goal.invariant_of-result
invariant_of-result c =
    let words = c.in_ok-vec.field-0 in
    let zeros : words.items ≡ replicate c.word_count.result 0 = search rules in
    record {
      small = c.ranges.len.fits;
      enough = search rules;
      none_past = λ k past. ap (λ l. has_bit l k) zeros ∙ has_bit_of_zeros c.word_count.result k;
    }

pub returns : goal.returns
returns c =
    let words = c.in_ok-vec.field-0 in
    let zeros : words.items ≡ replicate c.word_count.result 0 = search rules in
    first_bits_all c.args.len words.items false (λ k within. ap (λ l. has_bit l k) zeros ∙ has_bit_of_zeros c.word_count.result k)
