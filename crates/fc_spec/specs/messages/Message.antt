-- What shards tell: messages of partial buckets, for asks.
use Rattle.std.specs.Prelude.{ℕ, List, [], ◌∷◌, ◌++◌}
use Rattle.fc_spec.specs.requests.Buckets.{Key}
use Rattle.fc_spec.specs.requests.Statistics.{Stats}

-- buckets, each with its key, its statistics and, for each facet nested in its own, that facet's buckets
mutual
  pub data Partials : Type 0 where
    no_partials : Partials
    partial : Key → Stats → Rows → Partials → Partials

  pub data Rows : Type 0 where
    no_rows : Rows
    row : Partials → Rows → Rows

-- a node by its number among those of the bucket around it, and the key of one of its buckets
pub record Step : Type 0 where
  pub node : ℕ
  pub key : Key

-- the steps that lead to a bucket, from an outermost facet inwards
abbrev pub Way : Type 0
Way = List Step

-- a bucket that is asked for: the way to the bucket around it, and its own node and key
pub record Want : Type 0 where
  pub path : Way
  pub node : ℕ
  pub key : Key

-- the way to it
abbrev pub way_of : Want → Way
way_of w = w.path ++ record { node = w.node; key = w.key } ∷ []

-- the first ask of a shard: the root and what it offers below; or some buckets
pub data Ask : Type 0 where
  first : Ask
  more : List Want → Ask
