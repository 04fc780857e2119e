use Rattle.std.proofs.Common.{ap, sym, ◌∙◌, arith, get_or, false}
use Rattle.fc_spec.specs.documents.Bits.{has_bit}
use Rattle.fc_lane.proofs.BitLists.{length_of, get_or-first_bits}
use Rattle.fc_docset.proofs.set.DocSet.contains.Goals as goal

pub has_bit-requires : goal.has_bit-requires
has_bit-requires c =
    let set = c.self.inside in
    omega (arith, length_of set.len set.words.items _ c.self.view_is)

pub returns : goal.returns
returns c =
    let set = c.self.inside in
    let at = c.args.at in
    c.has_bit.ensures ∙ ap (λ words. has_bit words at) c.deref.ensures.value
    ∙ sym (get_or-first_bits set.len set.words.items at (omega (arith, length_of set.len set.words.items _ c.self.view_is)))
    ∙ ap (λ bits. get_or bits at false) c.self.view_is
