use Rattle.std.proofs.Common.{◌≡◌, ◌++◌, drop, map}
use Rattle.fc_round.specs.Waiting.{shard_at}
use Rattle.fc_round.proofs.driving.shards_at.Given as goal

-- the shards so far, and those at the places that are left
abbrev pub invariant-loop-place : goal.invariant-loop-place
invariant-loop-place g l = l.shards.items ++ map (shard_at l.seats) (drop l.place-index l.places) ≡ map (shard_at l.seats) l.places
