use Rattle.std.proofs.Common.{sym, ap, ◌∙◌, arith}
use Rattle.fc_spec.specs.documents.Bits.{has_bit}
use Rattle.fc_docset.specs.Positions.{contains}
use Rattle.fc_lane.proofs.BitLists.{length_of}
use Rattle.fc_docset.proofs.ChangedBits.{member-first_bits, last_of_same}
use Rattle.fc_docset.proofs.set.DocSet.last_up_to.Goals as goal

pub last_bit-requires : goal.last_bit-requires
last_bit-requires c =
    let set = c.self.inside in
    omega (arith, length_of set.len set.words.items _ c.self.view_is)

pub returns : goal.returns
returns c =
    let set = c.self.inside in
    last_of_same (has_bit c.deref.result.now) (contains c.args.self.now)
    (λ k. member-first_bits set.len set.words.items _ k c.self.view_is c.self.invariant.none_past ∙ ap (λ words. has_bit words k) (sym c.deref.ensures.value))
    c.args.to c.last_bit.result c.last_bit.ensures
