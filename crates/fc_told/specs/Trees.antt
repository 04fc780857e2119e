-- What shards told, bucket by bucket: one tree for the buckets of all shards.
use Rattle.std.specs.Prelude.{ℕ, zero, suc, List, [], ◌∷◌, Bool, true, false, ◌==◌, Option, None, Some, option_map, if◌then◌else◌, slice_index_or}
use Rattle.fc_spec.specs.documents.Val.{Val}
use Rattle.fc_spec.specs.requests.Buckets.{Key, value}
use Rattle.fc_spec.specs.requests.Statistics.{Stats}
use Rattle.fc_spec.specs.messages.KeyOrder.{same_key}
use Rattle.fc_spec.specs.messages.Message.{Step, Way}

-- a shard that told a bucket, with its count and statistics there, and whether it listed the bucket in the one around it; else it was asked for it
pub record Teller : Type 0 where
  pub shard : ℕ
  pub stats : Stats
  pub listed : Bool

-- a bucket: who told it, their counts added up, the absolute values of each of its numbers added up, and what they told of the nodes nested there, by the numbers of the nodes; of a node, a tree for each key
mutual
  pub data Tree : Type 0 where
    tree : List Teller → ℕ → List ℕ → Forks → Tree

  pub data Forks : Type 0 where
    no_forks : Forks
    fork : Branches → Forks → Forks

  pub data Branches : Type 0 where
    no_branches : Branches
    branch : Key → Tree → Branches → Branches

-- a bucket that nobody told
abbrev pub nothing : Tree
nothing = tree [] 0 [] no_forks

abbrev pub tellers_in : Tree → List Teller
tellers_in (tree ts c zs fs) = ts

abbrev pub count_in : Tree → ℕ
count_in (tree ts c zs fs) = c

abbrev pub sizes_in : Tree → List ℕ
sizes_in (tree ts c zs fs) = zs

abbrev pub size_in : ℕ → Tree → ℕ
size_in m T = slice_index_or (sizes_in T) m 0

abbrev pub forks_in : Tree → Forks
forks_in (tree ts c zs fs) = fs

-- what was told of the node with a number
abbrev pub branches_at : ℕ → Forks → Branches
branches_at n no_forks = no_branches
branches_at zero (fork bs fs) = bs
branches_at (suc n) (fork bs fs) = branches_at n fs

-- the keys of branches, in their order
abbrev pub keys_in : Branches → List Key
keys_in no_branches = []
keys_in (branch k T bs) = k ∷ keys_in bs

-- the bucket of a key
abbrev pub find_branch : Key → Branches → Tree
find_branch k no_branches = nothing
find_branch k (branch l T bs) = if same_key k l then T else find_branch k bs

-- the bucket one step further in, and where a way leads
abbrev pub child : Step → Tree → Tree
child s T = find_branch s.key (branches_at s.node (forks_in T))

abbrev pub at : Way → Tree → Tree
at [] T = T
at (s ∷ way) T = at way (child s T)

-- what a shard told of a bucket
abbrev pub teller_of : ℕ → List Teller → Option Teller
teller_of i [] = None
teller_of i (t ∷ ts) = if t.shard == i then Some t else teller_of i ts

abbrev pub stats_told : ℕ → Tree → Option Stats
stats_told i T = option_map (λ t. t.stats) (teller_of i (tellers_in T))

-- the shard listed it
abbrev pub was_listed : Option Teller → Bool
was_listed None = false
was_listed (Some t) = t.listed

abbrev pub is_listed_by : ℕ → Tree → Bool
is_listed_by i T = was_listed (teller_of i (tellers_in T))

-- the values that a shard listed, in the order of the branches
abbrev pub with_value : Bool → Key → List Val → List Val
with_value true (value v) vs = v ∷ vs
with_value _ _ vs = vs

abbrev pub values_listed : ℕ → Branches → List Val
values_listed i no_branches = []
values_listed i (branch k T bs) = with_value (is_listed_by i T) k (values_listed i bs)

-- of the node with a number
abbrev pub offered_at : ℕ → ℕ → Tree → List Val
offered_at n i T = values_listed i (branches_at n (forks_in T))
