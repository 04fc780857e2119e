-- Lists of shards.
use Rattle.std.specs.Prelude.{ℕ, List, ◌==◌}
use Rattle.std.specs.List.{IsDistinct}

-- no shard is named twice
abbrev pub AreDistinct : List ℕ → Type 0
AreDistinct H = IsDistinct ◌==◌ H
