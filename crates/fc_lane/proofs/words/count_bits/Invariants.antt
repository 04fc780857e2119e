use Rattle.std.proofs.Common.{◌≡◌, sum_by, take, count_ones}
use Rattle.fc_lane.proofs.words.count_bits.Given as goal

abbrev pub invariant-loop-word : goal.invariant-loop-word
invariant-loop-word l = l.count ≡ sum_by count_ones (take l.word-index l.words)
