use Rattle.std.proofs.Common.{ℕ, ◌<◌, get_or, map}
use Rattle.std.specs.Arc.{arc_value}
use Rattle.fc_store.specs.Generated.{Generated}
use Rattle.fc_search.specs.Schemas.{HasOwnBlocks}
use Rattle.fc_search.proofs.schemas.all_own_blocks.Given as goal

-- those so far
abbrev pub invariant-loop-number : goal.invariant-loop-number
invariant-loop-number l = (k : ℕ) → k < l.number → (d : Generated) → HasOwnBlocks (get_or (map arc_value l.generations) k d)
