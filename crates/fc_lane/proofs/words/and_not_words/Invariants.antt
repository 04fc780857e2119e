use Rattle.std.proofs.Common.{◌-◌, length}
use Rattle.fc_lane.specs.Joined.{and_not}
use Rattle.fc_lane.proofs.JoinedWords.{AreJoinedBefore}
use Rattle.fc_lane.proofs.words.and_not_words.Given as goal

abbrev pub invariant-loop-words : goal.invariant-loop-words
invariant-loop-words l = AreJoinedBefore and_not l.at l.initial.words l.others l.words

abbrev pub decreases-loop-words : goal.decreases-loop-words
decreases-loop-words l = length l.words - l.at
