use Rattle.std.proofs.Common.{◌||◌, ◌==◌, ap, ◌∙◌, arith}
use Rattle.std.proofs.lemmas.List.{with_items_is}
use Rattle.fc_spec.specs.documents.Bits.{has_bit, first_bits}
use Rattle.fc_lane.proofs.BitLists.{length_of, first_bits-add, none_added}
use Rattle.fc_docset.proofs.set.DocSet.add.Goals as goal

pub set_bit-requires : goal.set_bit-requires
set_bit-requires c =
    let set = c.self.inside in
    omega (arith, length_of set.len set.words.items _ c.self.view_is)

pub returns : goal.returns
returns c =
    let set = c.self.inside in
    let new = c.set_bit.new.words in
    ap (first_bits set.len) (with_items_is set.words new (omega arith))
    ∙ first_bits-add set.len c.args.at set.words.items new _ c.self.view_is (omega (arith, length_of set.len set.words.items _ c.self.view_is))
    (λ k. c.set_bit.ensures k ∙ ap (λ a. has_bit a k || (k == c.args.at)) c.deref_mut.ensures.value)

pub invariant_of-self : goal.invariant_of-self
invariant_of-self c =
    let set = c.self.inside in
    let new = c.set_bit.new.words in
    let same = with_items_is set.words new (omega arith) in
    record {
      small = c.self.invariant.small;
      enough = omega arith;
      none_past = rw same (none_added set.len c.args.at set.words.items new
          (omega (arith, length_of set.len set.words.items _ c.self.view_is)) c.self.invariant.none_past
          (λ k. c.set_bit.ensures k ∙ ap (λ a. has_bit a k || (k == c.args.at)) c.deref_mut.ensures.value));
    }
