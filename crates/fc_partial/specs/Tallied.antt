-- What a tally is.
use Rattle.std.specs.Prelude.{List}
use Rattle.fc_spec.specs.requests.Request.{Stat}
use Rattle.fc_spec.specs.requests.Buckets.{Key}
use Rattle.fc_spec.specs.requests.Statistics.{Stats}

-- a key with its statistics
abbrev pub Entry : Type 0
Entry = Key × Stats

-- which statistics are kept, and the entries in the order of their keys
pub record Tallied : Type 0 where
  pub stats : List Stat
  pub entries : List Entry
