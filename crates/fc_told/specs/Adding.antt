-- A told bucket put into the tree.
use Rattle.std.specs.Prelude.{ℕ, zero, suc, min, ◌+◌, ◌-◌, ◌^◌, List, [], ◌∷◌, true, false}
use Rattle.std.specs.Ordering.{match_ordering, nat_cmp}
use Rattle.fc_spec.specs.requests.Buckets.{Key}
use Rattle.fc_spec.specs.requests.Request.{Nodes, no_nodes, statistic, facet}
use Rattle.fc_spec.specs.requests.Statistics.{StatValue, Stats}
use Rattle.fc_spec.specs.messages.KeyOrder.{key_cmp}
use Rattle.fc_spec.specs.messages.Message.{Partials, no_partials, partial, Rows, no_rows, row, Way}
use Rattle.fc_spec.specs.messages.Held.{Told}
use Rattle.fc_spec.specs.laws.SumsLaw.{size_of}
use Rattle.fc_told.specs.Trees.{Teller, Tree, tree, Forks, no_forks, fork, Branches, no_branches, branch, nothing}

-- one more teller, in the order of shards; what the shard told before goes
abbrev pub with_teller : Teller → List Teller → List Teller
with_teller t [] = t ∷ []
with_teller t (u ∷ us) = match_ordering (nat_cmp t.shard u.shard) (t ∷ u ∷ us) (t ∷ us) (u ∷ with_teller t us)

-- a sum; it stands still at the end of 64 bits
abbrev pub sum_of : ℕ → ℕ → ℕ
sum_of a b = min (a + b) (2 ^ 64 - 1)

-- each sum with the absolute value of its number more
abbrev pub sizes_added : List ℕ → List StatValue → List ℕ
sizes_added zs [] = zs
sizes_added [] (v ∷ vs) = sum_of 0 (size_of v) ∷ sizes_added [] vs
sizes_added (z ∷ zs) (v ∷ vs) = sum_of z (size_of v) ∷ sizes_added zs vs

-- the branch of a key changed, put in its place where there is none
abbrev pub changed_branch : Key → (Tree → Tree) → Branches → Branches
changed_branch k f no_branches = branch k (f nothing) no_branches
changed_branch k f (branch l T bs) = match_ordering (key_cmp k l) (branch k (f nothing) (branch l T bs)) (branch l (f T) bs) (branch l T (changed_branch k f bs))

-- the branches of the node with a number changed
abbrev pub changed_fork : ℕ → (Branches → Branches) → Forks → Forks
changed_fork zero f no_forks = fork (f no_branches) no_forks
changed_fork (suc n) f no_forks = fork no_branches (changed_fork n f no_forks)
changed_fork zero f (fork bs fs) = fork (f bs) fs
changed_fork (suc n) f (fork bs fs) = fork bs (changed_fork n f fs)

-- the tellers, the sums, and then the forks with what is nested
abbrev pub numbers_added : Teller → Tree → Forks → Tree
numbers_added t (tree ts c zs fs) gs = tree (with_teller t ts) (sum_of c t.stats.count) (sizes_added zs t.stats.values) gs

abbrev pub forks_of : Tree → Forks
forks_of (tree ts c zs fs) = fs

-- for shard i
module _ (i : ℕ) where
  abbrev mutual
    -- the rows of nodes from the n-th on
    pub rows_added : ℕ → Rows → Nodes → Forks → Forks
    rows_added n no_rows nodes fs = fs
    rows_added n (row ps rest) no_nodes fs = fs
    rows_added n (row ps rest) (statistic name s nodes) fs = rows_added (suc n) (row ps rest) nodes fs
    rows_added n (row ps rest) (facet f inner nodes) fs = rows_added (suc n) rest nodes (changed_fork n (partials_added ps inner) fs)

    -- the buckets of a node, each of which the shard lists there
    pub partials_added : Partials → Nodes → Branches → Branches
    partials_added no_partials inner bs = bs
    partials_added (partial k stats rows rest) inner bs =
        partials_added rest inner (changed_branch k (λ T. numbers_added (record { shard = i; stats = stats; listed = true }) T (rows_added 0 rows inner (forks_of T))) bs)

  -- a bucket that was asked for
  abbrev pub bucket_added : Stats → Rows → Nodes → Tree → Tree
  bucket_added stats rows nodes T = numbers_added (record { shard = i; stats = stats; listed = false }) T (rows_added 0 rows nodes (forks_of T))

-- what a way leads to changed
abbrev pub changed_at : Way → (Tree → Tree) → Tree → Tree
changed_at [] f T = f T
changed_at (s ∷ way) f (tree ts c zs fs) = tree ts c zs (changed_fork s.node (changed_branch s.key (changed_at way f)) fs)

-- the tree with a told bucket, and with several
abbrev pub told_added : Told → Tree → Tree
told_added t T = changed_at t.way (bucket_added t.shard t.bucket.stats t.bucket.rows t.bucket.nodes) T

abbrev pub all_added : List Told → Tree → Tree
all_added [] T = T
all_added (t ∷ ts) T = all_added ts (told_added t T)
