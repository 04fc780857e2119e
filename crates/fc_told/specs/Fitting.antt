-- Whether told buckets can be added to the sums of a tree.
use Rattle.std.specs.Prelude.{ℕ, suc, ◌+◌, ◌^◌, List, [], ◌∷◌, Bool, true, ◌&&◌, nat_lt}
use Rattle.fc_spec.specs.requests.Request.{Nodes, no_nodes, statistic, facet}
use Rattle.fc_spec.specs.requests.Statistics.{StatValue, Stats}
use Rattle.fc_spec.specs.messages.Message.{Partials, no_partials, partial, Rows, no_rows, row}
use Rattle.fc_spec.specs.messages.Held.{Told}
use Rattle.fc_spec.specs.laws.SumsLaw.{size_of}
use Rattle.fc_told.specs.Trees.{Tree, count_in, sizes_in, child, at}

-- each sum of absolute values stays below 2^63
abbrev pub sizes_fit : List ℕ → List StatValue → Bool
sizes_fit zs [] = true
sizes_fit [] (v ∷ vs) = nat_lt (size_of v) (2 ^ 63) && sizes_fit [] vs
sizes_fit (z ∷ zs) (v ∷ vs) = nat_lt (z + size_of v) (2 ^ 63) && sizes_fit zs vs

-- and the count below 2^64
abbrev pub numbers_fit : Tree → Stats → Bool
numbers_fit T stats = nat_lt (count_in T + stats.count) (2 ^ 64) && sizes_fit (sizes_in T) stats.values

abbrev mutual
  -- the rows of nodes from the n-th on, a step further in than the tree
  pub rows_fit : Tree → ℕ → Rows → Nodes → Bool
  rows_fit T n no_rows nodes = true
  rows_fit T n (row ps rest) no_nodes = true
  rows_fit T n (row ps rest) (statistic name s nodes) = rows_fit T (suc n) (row ps rest) nodes
  rows_fit T n (row ps rest) (facet f inner nodes) = partials_fit T n ps inner && rows_fit T (suc n) rest nodes

  pub partials_fit : Tree → ℕ → Partials → Nodes → Bool
  partials_fit T n no_partials inner = true
  partials_fit T n (partial k stats rows rest) inner =
      numbers_fit (child (record { node = n; key = k }) T) stats && rows_fit (child (record { node = n; key = k }) T) 0 rows inner && partials_fit T n rest inner

abbrev pub bucket_fits : Tree → Stats → Rows → Nodes → Bool
bucket_fits T stats rows nodes = numbers_fit T stats && rows_fit T 0 rows nodes

-- whether each of some told buckets can be added
abbrev pub all_fit : Tree → List Told → Bool
all_fit T [] = true
all_fit T (t ∷ ts) = bucket_fits (at t.way T) t.bucket.stats t.bucket.rows t.bucket.nodes && all_fit T ts
