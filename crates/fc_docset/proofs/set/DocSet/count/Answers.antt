use Rattle.std.proofs.Common.{count_by, ap, ◌∙◌, arith}
use Rattle.std.proofs.lemmas.List.Sums.{count_by-le-length}
use Rattle.fc_lane.proofs.BitLists.{length_of}
use Rattle.fc_lane.proofs.WholeWords.{all_bits, count_of_all}
use Rattle.fc_docset.proofs.set.DocSet.count.Goals as goal

pub count_bits-requires : goal.count_bits-requires
count_bits-requires c = omega arith

pub overflow_cast-result : goal.overflow_cast-result
overflow_cast-result c =
    let set = c.self.inside in
    let counted = c.count_bits.ensures ∙ ap (λ words. count_by (λ here. here) (all_bits words)) c.deref.ensures.value
    ∙ count_of_all set.len set.words.items _ c.self.view_is (omega arith) c.self.invariant.none_past in
    let most = count_by-le-length (λ here. here) c.args.self.now in
    let size = length_of set.len set.words.items _ c.self.view_is in
    record { fits = omega (arith, counted, most, size) }

pub returns : goal.returns
returns c =
    let set = c.self.inside in
    c.count_bits.ensures ∙ ap (λ words. count_by (λ here. here) (all_bits words)) c.deref.ensures.value
    ∙ count_of_all set.len set.words.items _ c.self.view_is (omega arith) c.self.invariant.none_past
