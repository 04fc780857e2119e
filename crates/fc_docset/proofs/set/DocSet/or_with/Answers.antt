use Rattle.std.proofs.Common.{◌||◌, refl, ap, ap₂, ◌∙◌, arith}
use Rattle.std.proofs.lemmas.List.{with_items_is}
use Rattle.fc_spec.specs.documents.Bits.{has_bit, first_bits}
use Rattle.fc_lane.proofs.BitLists.{length_of, first_bits-zip_with, none_joined}
use Rattle.fc_docset.proofs.set.DocSet.or_with.Goals as goal

pub or_words-requires : goal.or_words-requires
or_words-requires c =
    let set = c.self.inside in
    let other = c.other.inside in
    omega (arith, length_of set.len set.words.items _ c.self.view_is, length_of other.len other.words.items _ c.other.view_is)

pub returns : goal.returns
returns c =
    let set = c.self.inside in
    let other = c.other.inside in
    let new = c.or_words.new.words in
    ap (first_bits set.len) (with_items_is set.words new (omega arith))
    ∙ first_bits-zip_with ◌||◌ set.len other.len set.words.items other.words.items new _ _ c.self.view_is c.other.view_is c.requires
    (λ k. c.or_words.ensures k ∙ ap₂ (λ a b. has_bit a k || has_bit b k) c.deref_mut.ensures.value c.deref.ensures.value)

pub invariant_of-self : goal.invariant_of-self
invariant_of-self c =
    let set = c.self.inside in
    let other = c.other.inside in
    let new = c.or_words.new.words in
    let same = with_items_is set.words new (omega arith) in
    record {
      small = c.self.invariant.small;
      enough = omega arith;
      none_past = rw same (none_joined ◌||◌ set.len other.len set.words.items other.words.items new refl
          (omega (arith, length_of set.len set.words.items _ c.self.view_is, length_of other.len other.words.items _ c.other.view_is))
          c.self.invariant.none_past c.other.invariant.none_past
          (λ k. c.or_words.ensures k ∙ ap₂ (λ a b. has_bit a k || has_bit b k) c.deref_mut.ensures.value c.deref.ensures.value));
    }
