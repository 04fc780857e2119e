-- What the first batches of shards leave is within the limits where all that batches add is.
use Rattle.std.proofs.Common.{ℕ, ◌≤◌, List, [], ◌∷◌, length, take, arith}
use Rattle.std.specs.Prelude.{sum_by}
use Rattle.fc_spec.specs.documents.Document.{Batch, Block}
use Rattle.fc_spec.specs.documents.Operations.{after_ops, blocks_added}
use Rattle.fc_spec.specs.words.Lists.{joined}
use Rattle.fc_spec.specs.laws.PhaseLaws.{FirstAreWithin}
use Rattle.fc_spec.specs.scripts.PinnedWorlds.{world_at, world_added}
use Rattle.std.proofs.lemmas.List.Sums.{sum_by-append}
use Rattle.fc_spec.proofs.documents.LeftBlocks.{op_measure, after_sum, added_sum}
use Rattle.fc_spec.proofs.words.Sums.{sum_by-first}
use Rattle.fc_spec.proofs.scripts.WorldTotals.{fewer_within}

shard_sum : (f : Block → ℕ) (n : ℕ) (bs : List Batch) → sum_by f (after_ops [] (joined (take n bs))) ≤ sum_by f (blocks_added (joined bs))
shard_sum f n bs = omega (arith, after_sum f [] (joined (take n bs)), sum_by-first (op_measure f) n bs, added_sum f (joined bs))

first_sum : (f : Block → ℕ) (shards : List (List Batch)) (g : List ℕ) → sum_by f (joined (world_at shards g)) ≤ sum_by f (joined (world_added shards))
first_sum f [] g = omega arith
first_sum f (bs ∷ shards) [] = omega arith
first_sum f (bs ∷ shards) (n ∷ g) =
    omega (arith, sum_by-append f (after_ops [] (joined (take n bs))) (joined (world_at shards g)), sum_by-append f (blocks_added (joined bs)) (joined (world_added shards)), shard_sum f n bs, first_sum f shards g)

no_more_shards : (shards : List (List Batch)) (g : List ℕ) → length (world_at shards g) ≤ length (world_added shards)
no_more_shards [] g = omega arith
no_more_shards (bs ∷ shards) [] = omega arith
no_more_shards (bs ∷ shards) (n ∷ g) = let rest = no_more_shards shards g in omega (arith, rest)

pub first_are_within : FirstAreWithin
first_are_within shards g all = fewer_within (world_at shards g) (world_added shards) (no_more_shards shards g) (λ f. first_sum f shards g) all
