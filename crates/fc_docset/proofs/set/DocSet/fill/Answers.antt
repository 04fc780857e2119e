use Rattle.std.proofs.Common.{◌≡◌, ◌-◌, ◌^◌, true, nat_lt, replicate, vec_len, sym, ap, ◌∙◌, arith, rules, lt-ltb}
use Rattle.std.proofs.lemmas.List.{with_items_is}
use Rattle.fc_spec.specs.documents.Bits.{has_bit, first_bits}
use Rattle.fc_spec.proofs.documents.WordBits.{and_right_true, has_bit_of_ones}
use Rattle.fc_lane.proofs.BitLists.{length_of, first_bits_all}
use Rattle.fc_docset.proofs.set.DocSet.fill.Goals as goal

pub returns : goal.returns
returns c =
    let set = c.self.inside in
    let new = c.clear_from.new.words in
    let ones : c.fill.new.self.items ≡ replicate (vec_len set.words) (2 ^ 64 - 1) = search rules in
    let size = length_of set.len set.words.items _ c.self.view_is in
    ap (first_bits set.len) (with_items_is c.fill.new.self new (omega arith))
    ∙ first_bits_all set.len new true (λ k within.
    c.clear_from.ensures k ∙ and_right_true (has_bit c.deref_mut.result.now k) (nat_lt k set.len) (lt-ltb k set.len within)
    ∙ ap (λ words. has_bit words k) c.deref_mut.ensures.value ∙ ap (λ l. has_bit l k) ones ∙ has_bit_of_ones (vec_len set.words) k (omega arith))
    ∙ ap (λ n. replicate n true) (sym size)
