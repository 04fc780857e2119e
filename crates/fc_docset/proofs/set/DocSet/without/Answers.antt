use Rattle.std.proofs.Common.{◌&&◌, not, ap, ap₂, ◌∙◌, arith}
use Rattle.std.proofs.lemmas.List.{with_items_is}
use Rattle.fc_spec.specs.documents.Bits.{has_bit, first_bits}
use Rattle.fc_lane.proofs.BitLists.{length_of, first_bits-zip_with}
use Rattle.fc_docset.proofs.set.DocSet.without.Goals as goal

pub and_not_words-requires : goal.and_not_words-requires
and_not_words-requires c =
    let set = c.self.inside in
    let other = c.other.inside in
    omega (arith, length_of set.len set.words.items _ c.self.view_is, length_of other.len other.words.items _ c.other.view_is)

pub returns : goal.returns
returns c =
    let set = c.self.inside in
    let other = c.other.inside in
    let new = c.and_not_words.new.words in
    ap (first_bits set.len) (with_items_is set.words new (omega arith))
    ∙ first_bits-zip_with (λ here there. here && not there) set.len other.len set.words.items other.words.items new _ _ c.self.view_is c.other.view_is c.requires
    (λ k. c.and_not_words.ensures k ∙ ap₂ (λ a b. has_bit a k && not (has_bit b k)) c.deref_mut.ensures.value c.deref.ensures.value)
