use Rattle.std.proofs.Common.{nat_lt, ap, ◌∙◌, arith, lt-ltb}
use Rattle.std.proofs.lemmas.List.{with_items_is}
use Rattle.fc_spec.specs.documents.Bits.{has_bit, first_bits}
use Rattle.fc_spec.proofs.documents.WordBits.{and_right_true}
use Rattle.fc_lane.proofs.BitLists.{first_bits_same}
use Rattle.fc_docset.proofs.set.DocSet.within.Goals as goal

pub returns : goal.returns
returns c =
    let len = c.args.len in
    let new = c.clear_from.new.words in
    ap (first_bits len) (with_items_is c.args.words new (omega arith))
    ∙ first_bits_same len new c.args.words.items (λ k below.
    c.clear_from.ensures k ∙ and_right_true (has_bit c.deref_mut.result.now k) (nat_lt k len) (lt-ltb k len below)
    ∙ ap (λ words. has_bit words k) c.deref_mut.ensures.value)
