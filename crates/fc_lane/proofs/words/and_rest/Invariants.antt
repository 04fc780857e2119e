use Rattle.std.proofs.Common.{◌≡◌, ℕ, ◌<◌, ◌≤◌, get_or, bit_and}
use Rattle.fc_lane.proofs.words.and_rest.Given as goal

abbrev pub invariant-loop-i : goal.invariant-loop-i
invariant-loop-i l = record {
  joined : (k : ℕ) → l.from ≤ k → k < l.i → get_or l.words k 0 ≡ bit_and (get_or l.initial.words k 0) (get_or l.others k 0);
  below : (k : ℕ) → k < l.from → get_or l.words k 0 ≡ get_or l.initial.words k 0;
  past : (k : ℕ) → l.i ≤ k → get_or l.words k 0 ≡ get_or l.initial.words k 0;
}
