use Rattle.std.proofs.Common.{◌≤◌, length, nat_lt, take, sym, ap, ◌∙◌, arith, lt-ltb}
use Rattle.std.proofs.lemmas.List.{with_items_is, length-take}
use Rattle.fc_spec.specs.documents.Bits.{has_bit, first_bits, words_for}
use Rattle.fc_spec.proofs.documents.WordBits.{and_right_true}
use Rattle.fc_lane.proofs.BitLists.{length_of, first_bits_same, first_bits_of_front}
use Rattle.fc_docset.proofs.set.DocSet.set_mask.Goals as goal

pub slice_bounds-copy_from_slice-end : goal.slice_bounds-copy_from_slice-end
slice_bounds-copy_from_slice-end c =
    let set = c.self.inside in
    let size = length_of set.len set.words.items _ c.self.view_is in
    let enough : words_for set.len ≤ length c.args.words.now = let e = sym (ap words_for size) in let h = c.requires in omega (arith, e, h) in
    omega (arith, length-take c.len-count.result c.args.words.now)

pub copy_from_slice-requires : goal.copy_from_slice-requires
copy_from_slice-requires c =
    let set = c.self.inside in
    let size = length_of set.len set.words.items _ c.self.view_is in
    let enough : words_for set.len ≤ length c.args.words.now = let e = sym (ap words_for size) in let h = c.requires in omega (arith, e, h) in
    omega (arith, length-take c.len-count.result c.args.words.now)

pub returns : goal.returns
returns c =
    let set = c.self.inside in
    let new = c.clear_from.new.words in
    let size = length_of set.len set.words.items _ c.self.view_is in
    let front = c.copy_from_slice.ensures.items ∙ ap (λ n. take n c.args.words.now) (c.len-count.ensures ∙ c.self.invariant.enough) in
    ap (first_bits set.len) (with_items_is c.copy_from_slice.new.self new (omega arith))
    ∙ first_bits_same set.len new c.copy_from_slice.new.self.items (λ k within.
    c.clear_from.ensures k ∙ and_right_true (has_bit c.deref_mut.result.now k) (nat_lt k set.len) (lt-ltb k set.len within)
    ∙ ap (λ words. has_bit words k) c.deref_mut.ensures.value)
    ∙ ap (first_bits set.len) front ∙ first_bits_of_front set.len c.args.words.now
    ∙ ap (λ n. first_bits n c.args.words.now) (sym size)
