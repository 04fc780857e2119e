use Rattle.std.proofs.Common.{◌==◌, ◌||◌, ◌+◌, ◌≤◌, length, bit_or, refl, ap, ◌∙◌, arith}
use Rattle.std.specs.Int.{bit_at}
use Rattle.fc_spec.proofs.documents.WordBits.{has_bit_joined, or_joins}
use Rattle.fc_lane.proofs.JoinedWords.{joined_lanes, lanes_of_chunks, length_of_lanes, joined_all}
use Rattle.fc_lane.proofs.words.or_words.Goals as goal

pub loop-words-preserved : goal.loop-words-preserved
loop-words-preserved c =
    let at = c.loop-words.at in
    let words = c.loop-words.words in
    let others = c.args.others.now in
    let room : at + 8 ≤ length words = omega arith in
    let others_room : at + 8 ≤ length others = omega arith in
    joined_lanes bit_or at c.args.words.now others words _ c.loop-words.invariant room (length_of_lanes bit_or at words others room others_room)
    (lanes_of_chunks bit_or at words others room others_room)

pub returns : goal.returns
returns c =
    has_bit_joined ◌||◌ c.or_rest.new.words c.args.words.now c.args.others.now refl (omega arith) (omega arith)
    (λ k i within small. ap (λ word. bit_at word i == 1) (joined_all bit_or c.loop-words.at c.args.words.now c.args.others.now c.loop-words.words c.or_rest.new.words c.loop-words.invariant c.or_rest.ensures k (omega arith))
    ∙ or_joins _ _ i)
