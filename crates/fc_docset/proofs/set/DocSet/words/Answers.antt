use Rattle.std.proofs.Common.{false, get_or, ap, ◌∙◌, arith}
use Rattle.fc_spec.specs.documents.Bits.{has_bit}
use Rattle.fc_lane.proofs.BitLists.{length_of, HasBits-first_bits}
use Rattle.fc_docset.proofs.set.DocSet.words.Goals as goal

pub returns-clause-count : goal.returns-clause-count
returns-clause-count c =
    let set = c.self.inside in
    omega (arith, length_of set.len set.words.items _ c.self.view_is)

pub returns-clause-bits : goal.returns-clause-bits
returns-clause-bits c = λ k.
    let set = c.self.inside in
    ap (λ words. has_bit words k) c.deref.ensures.value
    ∙ HasBits-first_bits set.len set.words.items c.self.invariant.none_past k ∙ ap (λ bits. get_or bits k false) c.self.view_is
