use Rattle.std.proofs.Common.{◌≡◌, ℕ, ◌&&◌, ◌||◌, nat_le, nat_lt, refl, sym, ap, ◌∙◌, arith}
use Rattle.std.proofs.lemmas.List.{with_items_is}
use Rattle.fc_spec.specs.documents.Bits.{has_bit, first_bits}
use Rattle.fc_docset.specs.Positions.{contains}
use Rattle.fc_lane.proofs.BitLists.{length_of}
use Rattle.fc_docset.proofs.ChangedBits.{member-first_bits, none_in_run}
use Rattle.fc_docset.proofs.set.DocSet.add_range.Goals as goal

pub set_bits-requires-clause-within : goal.set_bits-requires-clause-within
set_bits-requires-clause-within c =
    let set = c.self.inside in
    omega (arith, length_of set.len set.words.items _ c.self.view_is)

pub returns-clause-set : goal.returns-clause-set
returns-clause-set c =
    let set = c.self.inside in
    let new = c.set_bits.new.words in
    let size = length_of set.len set.words.items _ c.self.view_is in
    let bit : (k : ℕ) → has_bit new k ≡ (has_bit set.words.items k || (nat_le c.args.from k && nat_lt k c.args.to)) =
    λ k. c.set_bits.ensures k ∙ ap (λ a. has_bit a k || (nat_le c.args.from k && nat_lt k c.args.to)) c.deref_mut.ensures.value in
    λ k. ap (λ words. contains (first_bits set.len words) k) (with_items_is set.words new (omega arith))
    ∙ member-first_bits set.len new _ k refl (none_in_run set.len c.args.from c.args.to set.words.items new (omega (arith, size)) c.self.invariant.none_past bit)
    ∙ bit k
    ∙ ap (λ b. b || (nat_le c.args.from k && nat_lt k c.args.to)) (sym (member-first_bits set.len set.words.items _ k c.self.view_is c.self.invariant.none_past))

pub invariant_of-self : goal.invariant_of-self
invariant_of-self c =
    let set = c.self.inside in
    let new = c.set_bits.new.words in
    let same = with_items_is set.words new (omega arith) in
    let size = length_of set.len set.words.items _ c.self.view_is in
    record {
      small = c.self.invariant.small;
      enough = omega arith;
      none_past = rw same (none_in_run set.len c.args.from c.args.to set.words.items new (omega (arith, size)) c.self.invariant.none_past
          (λ k. c.set_bits.ensures k ∙ ap (λ a. has_bit a k || (nat_le c.args.from k && nat_lt k c.args.to)) c.deref_mut.ensures.value));
    }
