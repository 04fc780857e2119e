use Rattle.std.proofs.Common.{◌-◌, length, bit_and}
use Rattle.fc_lane.proofs.JoinedWords.{AreJoinedBefore}
use Rattle.fc_lane.proofs.words.and_words.Given as goal

abbrev pub invariant-loop-words : goal.invariant-loop-words
invariant-loop-words l = AreJoinedBefore bit_and l.at l.initial.words l.others l.words

abbrev pub decreases-loop-words : goal.decreases-loop-words
decreases-loop-words l = length l.words - l.at
