use Rattle.std.proofs.Common.{◌==◌, ◌&&◌, not, ◌+◌, ◌≤◌, length, get_or, bit_and, w64, refl, sym, ap, ◌∙◌, arith}
use Rattle.std.specs.Int.{bit_at, bit_not}
use Rattle.std.specs.Simd.Lanes.{chunk}
use Rattle.std.proofs.lemmas.Simd.{length-chunk}
use Rattle.fc_spec.proofs.documents.WordBits.{has_bit_joined, and_not_joins}
use Rattle.fc_lane.proofs.JoinedWords.{joined_lanes, lanes_of_chunks, lanes_of_changed, length_of_lanes, joined_all}
use Rattle.fc_lane.specs.Joined.{and_not}
use Rattle.fc_lane.proofs.words.and_not_words.Goals as goal

pub loop-words-preserved : goal.loop-words-preserved
loop-words-preserved c =
    let at = c.loop-words.at in
    let words = c.loop-words.words in
    let others = c.args.others.now in
    let room : at + 8 ≤ length words = omega arith in
    let others_room : at + 8 ≤ length others = omega arith in
    let same = lanes_of_changed bit_and (bit_not w64) (chunk at 8 words) (chunk at 8 others) (length-chunk at 8 words room ∙ sym (length-chunk at 8 others others_room)) in
    joined_lanes and_not at c.args.words.now others words _ c.loop-words.invariant room (ap length same ∙ length_of_lanes and_not at words others room others_room)
    (λ j low. ap (λ l. get_or l j 0) same ∙ lanes_of_chunks and_not at words others room others_room j low)

pub returns : goal.returns
returns c =
    has_bit_joined (λ here there. here && not there) c.and_not_rest.new.words c.args.words.now c.args.others.now refl (omega arith) (omega arith)
    (λ k i within small. ap (λ word. bit_at word i == 1) (joined_all and_not c.loop-words.at c.args.words.now c.args.others.now c.loop-words.words c.and_not_rest.new.words c.loop-words.invariant c.and_not_rest.ensures k (omega arith))
    ∙ and_not_joins _ _ i (c.type_inv.others k).fits small)
