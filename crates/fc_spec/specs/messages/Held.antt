-- The buckets that messages hold.
use Rattle.std.specs.Prelude.{ℕ, zero, suc, List, [], ◌∷◌, ◌&&◌, ◌==◌, Option, None, Some, option_and_then, if◌then◌else◌}
use Rattle.fc_spec.specs.documents.Val.{Val}
use Rattle.fc_spec.specs.requests.Buckets.{Key, value}
use Rattle.fc_spec.specs.messages.KeyOrder.{same_key}
use Rattle.fc_spec.specs.requests.Statistics.{Stats}
use Rattle.fc_spec.specs.requests.Request.{Nodes, no_nodes, statistic, facet}
use Rattle.fc_spec.specs.messages.Target.{facet_at, nodes_in, target_of, target_nodes}
use Rattle.fc_spec.specs.messages.Message.{Partials, no_partials, partial, Rows, no_rows, row, Way, Want, way_of, Ask, first, more}

-- a bucket that is held: its statistics, and the nodes nested in its own with their buckets
pub record HeldBucket : Type 0 where
  pub stats : Stats
  pub nodes : Nodes
  pub rows : Rows

-- a top bucket of a message: the shard that told it, and the way to it
pub record Told : Type 0 where
  pub shard : ℕ
  pub way : Way
  pub bucket : HeldBucket

-- the top buckets that a message tells of: of a first ask the root's bucket; of wants each bucket, for its want
abbrev pub told_root : Nodes → ℕ → Partials → List Told
told_root nodes i no_partials = []
told_root nodes i (partial key stats rows rest) = record { shard = i; way = []; bucket = record { stats = stats; nodes = nodes; rows = rows } } ∷ []

abbrev pub told_wants : Nodes → ℕ → List Want → Partials → List Told
told_wants nodes i [] m = []
told_wants nodes i (w ∷ ws) no_partials = []
told_wants nodes i (w ∷ ws) (partial key stats rows rest) =
    record { shard = i; way = way_of w; bucket = record { stats = stats; nodes = target_nodes (target_of nodes (way_of w)); rows = rows } } ∷ told_wants nodes i ws rest

abbrev pub told_by : Nodes → ℕ → Ask → Partials → List Told
told_by nodes i first m = told_root nodes i m
told_by nodes i (more wants) m = told_wants nodes i wants m

-- the first row, and those behind it
abbrev pub first_row : Rows → Partials
first_row no_rows = no_partials
first_row (row ps rest) = ps

abbrev pub later_rows : Rows → Rows
later_rows no_rows = no_rows
later_rows (row ps rest) = rest

-- the row of a node, by its number among nodes: there is one for each facet
abbrev pub row_at : ℕ → Nodes → Rows → Partials
row_at n no_nodes rows = no_partials
row_at zero (statistic name s nodes) rows = no_partials
row_at zero (facet f inner nodes) rows = first_row rows
row_at (suc n) (statistic name s nodes) rows = row_at n nodes rows
row_at (suc n) (facet f inner nodes) rows = row_at n nodes (later_rows rows)

-- the bucket of a key among partial buckets, with the nodes nested in theirs
abbrev pub find_key : Nodes → Key → Partials → Option HeldBucket
find_key nodes key no_partials = None
find_key nodes key (partial k stats rows rest) = if same_key key k then Some (record { stats = stats; nodes = nodes; rows = rows }) else find_key nodes key rest

-- the bucket of a key of a node in a bucket
abbrev pub bucket_in : ℕ → Key → HeldBucket → Option HeldBucket
bucket_in n key b = find_key (nodes_in (facet_at n b.nodes)) key (row_at n b.nodes b.rows)

-- the bucket where a way leads from a bucket on
abbrev pub descend : Way → HeldBucket → Option HeldBucket
descend [] b = Some b
descend (step ∷ way) b = option_and_then (descend way) (bucket_in step.node step.key b)

-- what is left of a way behind the steps of another
abbrev pub behind : Way → Way → Option Way
behind [] way = Some way
behind (s ∷ ss) [] = None
behind (s ∷ ss) (step ∷ way) = if (s.node == step.node) && same_key s.key step.key then behind ss way else None

-- the bucket where a way leads that begins with the way of a told one
abbrev pub held_in : Told → Way → Option HeldBucket
held_in t way = option_and_then (λ rest. descend rest t.bucket) (behind t.way way)

abbrev pub or_else : {A : Type 0} → Option A → Option A → Option A
or_else None b = b
or_else (Some a) b = Some a

-- the bucket that shard i has told of, where a way leads: in the first message that has one
abbrev pub held : List Told → ℕ → Way → Option HeldBucket
held [] i way = None
held (t ∷ ts) i way = or_else (if t.shard == i then held_in t way else None) (held ts i way)

-- the values among the keys of partial buckets
abbrev pub listed_value : Key → List Val → List Val
listed_value (value v) vs = v ∷ vs
listed_value _ vs = vs

abbrev pub listed_values : Partials → List Val
listed_values no_partials = []
listed_values (partial key stats rows rest) = listed_value key (listed_values rest)
