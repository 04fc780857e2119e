-- Commits of a shard's batches, and what is left of them.
use Rattle.std.specs.Prelude.{◌≡◌, ℕ, ◌+◌, ◌-◌, ◌≤◌, List, [], ◌∷◌, ◌++◌, length, map, take, drop, All}
use Rattle.std.specs.Arc.{arc_value}
use Rattle.std.specs.List.{zip}
use Rattle.fc_spec.specs.documents.Operations.{after_ops, blocks_added}
use Rattle.fc_spec.specs.documents.Schema.{Schema}
use Rattle.fc_spec.specs.scripts.WorldLimits.{IsWithinLimits}
use Rattle.fc_spec.specs.words.Lists.{joined}
use Rattle.fc_docs.specs.declared.block.Batch.{Batch}
use Rattle.fc_script.specs.PartsView.{batches_view}
use Rattle.fc_store.specs.Charters.{Chartered, IsBatchOf}
use Rattle.fc_store.specs.Generated.{Generated}
use Rattle.fc_store.specs.declared.generation.Generation.{Generation}
use Rattle.fc_run.specs.Generations.{generation_at}
use Rattle.fc_run.specs.declared.commits.Committed.{Committed}

-- the generation after a commit of each of the batches
abbrev pub generation_after : Generated → List Batch → Generated
generation_after g batches = record { schema = g.schema; number = g.number + length batches; blocks = after_ops g.blocks (joined (batches_view batches)) }

-- a shard between two commits: its generation, and the batches that are left
pub record Progress : Type 0 where
  pub generation : Generated
  pub left : List Batch

abbrev pub progress_of : Committed → Progress
progress_of c = record { generation = arc_value {X = Generation} c.generation; left = c.uncommitted.items }

-- how many commits are missing for so many
abbrev pub missing_to : Progress → ℕ → ℕ
missing_to p commits = commits - p.generation.number

-- the shard once it has so many commits, from no more on and with as many batches
abbrev pub carried : Progress → ℕ → Progress
carried p commits = record { generation = generation_after p.generation (take (missing_to p commits) p.left); left = drop (missing_to p commits) p.left }

-- so many can be made: the shard has no more yet, there are as many batches, each and together of the schema and few, the blocks that it has and those that they add are within the limits, and they are 4,096 commits at most; without a commit it has no block
pub record CanCarry (p : Progress) (commits : ℕ) : Type 0 where
  pub below : p.generation.number ≤ commits
  pub there : missing_to p commits ≤ length p.left
  pub number : p.generation.number + missing_to p commits ≤ 4096
  pub each : All (IsBatchOf p.generation.schema) (batches_view (take (missing_to p commits) p.left))
  pub all : IsBatchOf p.generation.schema (joined (batches_view (take (missing_to p commits) p.left)))
  pub limits : IsWithinLimits ((p.generation.blocks ++ blocks_added (joined (batches_view (take (missing_to p commits) p.left)))) ∷ [])
  pub begun : p.generation.number ≡ 0 → p.generation.blocks ≡ []

-- shards, each once it has its number of commits
abbrev pub all_carried : List Progress → List ℕ → List Progress
all_carried shards commits = map (λ x. carried x.0 x.1) (zip shards commits)

-- each can be carried on to its number of commits
abbrev pub CanCarryAll : List Progress → List ℕ → Type 0
CanCarryAll shards commits = All (λ x. CanCarry x.0 x.1) (zip shards commits)

-- what a store may publish that carries the shard on to so many
abbrev pub charter_to : Progress → ℕ → Chartered
charter_to p commits = record { start = p.generation; later = batches_view (take (missing_to p commits) p.left) }

abbrev pub charters_to : List Progress → List ℕ → List Chartered
charters_to shards commits = map (λ x. charter_to x.0 x.1) (zip shards commits)

-- the batches that are left then
abbrev pub left_by : Progress → ℕ → List Batch
left_by p commits = drop (missing_to p commits) p.left

abbrev pub all_left : List Progress → List ℕ → List (List Batch)
all_left shards commits = map (λ x. left_by x.0 x.1) (zip shards commits)

-- shards of these generations, with these batches left
abbrev pub joined_again : List Generated → List (List Batch) → List Progress
joined_again gs left = map (λ x. record { generation = x.0; left = x.1 }) (zip gs left)

-- a shard of these batches with so many commits
abbrev pub progress_at : Schema → List Batch → ℕ → Progress
progress_at s batches commits = record { generation = generation_at s (batches_view batches) commits; left = drop commits batches }

-- for each shard that of its number
abbrev pub all_progress_at : Schema → List (List Batch) → List ℕ → List Progress
all_progress_at s lists numbers = map (λ x. progress_at s x.0 x.1) (zip lists numbers)
