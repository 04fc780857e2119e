-- What lines that were read add up to is within the limits of scripts.
use Rattle.std.specs.Prelude.{◌≡◌, ◌≤◌, List, length, map, true, All}
use Rattle.std.specs.List.{list_all}
use Rattle.fc_spec.specs.documents.Schema.{Schema}
use Rattle.fc_spec.specs.documents.Val.{Text}
use Rattle.fc_spec.specs.scripts.ScriptTotals.{total_limit}
use Rattle.fc_script.specs.Gathered.{has_few}
use Rattle.fc_script.specs.ShardView.{shard_view}
use Rattle.fc_script.specs.declared.counts.documents.DocumentCounts.{DocumentCounts}
use Rattle.fc_script.specs.declared.gather.gathered.Gathered.{Gathered}

-- there is a sum for each field, and each shard is there; no sum is above its limit, and commits, sessions and phases are as few as a script may have
pub record AreWithin (s : Schema) (documents : DocumentCounts) (names : List Text) (g : Gathered) : Type 0 where
  pub fields : length documents.sums.items ≡ length s.fields
  pub sums : All (λ sum. sum ≤ total_limit) documents.sums.items
  pub shards : length g.shards.items ≡ s.shards
  pub commits : list_all has_few (map shard_view g.shards.items) ≡ true
  pub sessions : length names ≤ 16
  pub phases : length g.phases.items ≤ 4096
