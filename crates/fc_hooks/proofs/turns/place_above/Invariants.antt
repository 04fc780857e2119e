use Rattle.std.proofs.Common.{◌≤◌, ◌<◌, ℕ, slice_index}
use Rattle.fc_hooks.proofs.turns.place_above.Given as goal

-- none so far is above
abbrev pub invariant-loop-place : goal.invariant-loop-place
invariant-loop-place l = (k : ℕ) → k < l.place → slice_index l.numbers k ≤ l.last
