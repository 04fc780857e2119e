use Rattle.std.proofs.Common.{◌≡◌, map, take}
use Rattle.fc_refine.proofs.candidates.shards_of.Given as goal

abbrev pub invariant-loop-one : goal.invariant-loop-one
invariant-loop-one l = l.shards.items ≡ map (λ x. x.shard) (take l.one-index l.listed)
