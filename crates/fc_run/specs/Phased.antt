-- A phase of a script.
use Rattle.std.specs.Prelude.{◌≡◌, ℕ, ◌≤◌, List, length, map, All}
use Rattle.fc_spec.specs.documents.Document as documents
use Rattle.fc_spec.specs.scripts.PinnedWorlds.{world_added}
use Rattle.fc_spec.specs.scripts.WorldLimits.{IsWithinLimits}
use Rattle.fc_script.specs.declared.script.Phase.{Phase}
use Rattle.fc_search.specs.Schemas.{AreSame}
use Rattle.fc_work.specs.Pinned.{batches_of}
use Rattle.fc_run.specs.Progress.{CanCarryAll, Progress, charters_to}
use Rattle.fc_run.specs.Runnable.{IsSearchOf}

-- for each shard the batches of what its store may publish
abbrev pub chartered_batches : List Progress → List ℕ → List (List documents.Batch)
chartered_batches shards commits = map batches_of (charters_to shards commits)

abbrev pub numbers_before : List Progress → List ℕ
numbers_before shards = map (λ p. p.generation.number) shards

-- from these shards on it can be run, with so many sessions
pub record CanRun (shards : List Progress) (sessions : ℕ) (p : Phase) : Type 0 where
  pub some : 1 ≤ length shards
  pub few : length shards ≤ 64
  pub schema : AreSame (map (λ q. q.generation.schema) shards)
  pub count : length p.commits.items ≡ length shards
  pub carry : CanCarryAll shards p.commits.items
  pub within : IsWithinLimits (world_added (chartered_batches shards p.commits.items))
  pub searches : All (IsSearchOf (map (λ q. q.generation) shards) sessions) p.searches.items
