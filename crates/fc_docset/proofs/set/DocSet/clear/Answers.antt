use Rattle.std.proofs.Common.{◌≡◌, false, replicate, vec_len, sym, ap, ◌∙◌, arith, rules}
use Rattle.fc_spec.specs.documents.Bits.{has_bit}
use Rattle.fc_spec.proofs.documents.WordBits.{has_bit_of_zeros}
use Rattle.fc_lane.proofs.BitLists.{length_of, first_bits_all}
use Rattle.fc_docset.proofs.set.DocSet.clear.Goals as goal

pub invariant_of-self : goal.invariant_of-self
invariant_of-self c =
    let zeros : c.fill.new.self.items ≡ replicate (vec_len c.self.inside.words) 0 = search rules in
    record {
      small = c.self.invariant.small;
      enough = omega arith;
      none_past = λ k past. ap (λ l. has_bit l k) zeros ∙ has_bit_of_zeros (vec_len c.self.inside.words) k;
    }

pub returns : goal.returns
returns c =
    let set = c.self.inside in
    let zeros : c.fill.new.self.items ≡ replicate (vec_len set.words) 0 = search rules in
    let size = length_of set.len set.words.items _ c.self.view_is in
    first_bits_all set.len c.fill.new.self.items false (λ k within. ap (λ l. has_bit l k) zeros ∙ has_bit_of_zeros (vec_len set.words) k)
    ∙ ap (λ n. replicate n false) (sym size)
