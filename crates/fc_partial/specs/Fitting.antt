-- Places whose statistics fit their types.
use Rattle.std.specs.Prelude.{ℕ, ◌≤◌, List, length, sum_by, nat_abs}
use Rattle.fc_spec.specs.documents.World.{Place}
use Rattle.fc_spec.specs.requests.Statistics.{pair_values, longs_of}
use Rattle.fc_spec.specs.scripts.ScriptTotals.{total_limit}

-- not too many places, pairs and absolute values in any field
pub record StatisticsFit (X : List Place) : Type 0 where
  pub places : length X ≤ 1_048_576
  pub pairs : (field : ℕ) → length (pair_values field X) ≤ 16_777_216
  pub sums : (field : ℕ) → sum_by nat_abs (longs_of field X) ≤ total_limit
