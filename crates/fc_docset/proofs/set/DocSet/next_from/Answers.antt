use Rattle.std.proofs.Common.{sym, ap, ◌∙◌, arith}
use Rattle.fc_spec.specs.documents.Bits.{has_bit}
use Rattle.fc_docset.specs.Positions.{contains}
use Rattle.fc_lane.proofs.BitLists.{length_of}
use Rattle.fc_docset.proofs.ChangedBits.{member-first_bits, next_of_same}
use Rattle.fc_docset.proofs.set.DocSet.next_from.Goals as goal

pub returns-clause-found : goal.returns-clause-found
returns-clause-found c =
    let set = c.self.inside in
    next_of_same (has_bit c.deref.result.now) (contains c.args.self.now)
    (λ k. member-first_bits set.len set.words.items _ k c.self.view_is c.self.invariant.none_past ∙ ap (λ words. has_bit words k) (sym c.deref.ensures.value))
    c.args.from c.next_bit.result c.next_bit.ensures

pub returns-clause-small : goal.returns-clause-small
returns-clause-small c =
    let set = c.self.inside in
    omega (arith, length_of set.len set.words.items _ c.self.view_is, c.self.invariant.small)
