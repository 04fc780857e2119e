-- The limits on the documents of all shards together.
use Rattle.std.specs.Prelude.{ℕ, ◌≤◌, length, IsTrue}
use Rattle.fc_spec.specs.documents.World.{World}
use Rattle.fc_spec.specs.documents.Totals.{documents_in}
use Rattle.fc_spec.specs.words.Lists.{joined}
use Rattle.fc_spec.specs.scripts.ScriptTotals.{script_limits, are_few, absolute_total, total_limit}

-- at most 64 shards, 1,048,576 documents and 16,777,216 values, and for each field a sum of absolute values within 64 bits signed
pub record IsWithinLimits (W : World) : Type 0 where
  pub shards : length W ≤ 64
  pub few : IsTrue (are_few script_limits (documents_in (joined W)))
  pub sums : (field : ℕ) → absolute_total (documents_in (joined W)) field ≤ total_limit
