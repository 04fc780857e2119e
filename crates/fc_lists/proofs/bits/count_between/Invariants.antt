use Rattle.std.proofs.Common.{◌≡◌, ◌+◌, ◌*◌, ◌/◌}
use Rattle.fc_lists.specs.Ranks.{bits_below}
use Rattle.fc_lists.proofs.bits.count_between.Given as goal

-- the bits up to the word are counted, and those of the last word that stand below the end
abbrev pub invariant-loop-at : goal.invariant-loop-at
invariant-loop-at l = bits_below (64 * (l.from / 64)) l.words + l.count + bits_below (64 * (l.to / 64)) l.words ≡ bits_below (64 * l.at) l.words + bits_below l.to l.words
