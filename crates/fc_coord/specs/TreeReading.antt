-- What the reply asks of told buckets, answered from the tree of what shards told.
use Rattle.std.specs.Prelude.{◌≡◌, ℕ, pos, ◌+◌, ◌<◌, List, [], ◌∷◌, Bool, true, false, Option, None, Some, is_some, slice_index_or}
use Rattle.fc_spec.specs.words.Lists.{is_empty, numbers_below}
use Rattle.fc_spec.specs.requests.Request.{Request, Stat}
use Rattle.fc_spec.specs.requests.Statistics.{StatValue, number, Stats, value_over, combined_value}
use Rattle.fc_spec.specs.laws.SumsLaw.{size_of}
use Rattle.fc_spec.specs.replies.Reading.{Reading}
use Rattle.fc_spec.specs.messages.Lacks.{Lack}
use Rattle.fc_lacks.specs.Lacking.{lacking}
use Rattle.fc_told.specs.Trees.{Tree, child, stats_told, offered_at}

-- the count of what a shard told; nothing adds nothing
abbrev pub told_count : Option Stats → ℕ
told_count None = 0
told_count (Some stats) = stats.count

-- a statistic of it, by its number; nothing has that of no place
abbrev pub told_value : ℕ → Stat → Option Stats → StatValue
told_value m s None = value_over s []
told_value m s (Some stats) = slice_index_or stats.values m (value_over s [])

-- the count and a statistic of a bucket over some shards, combined
abbrev pub count_told : List ℕ → Tree → ℕ
count_told [] T = 0
count_told (i ∷ H) T = told_count (stats_told i T) + count_told H T

abbrev pub value_told : ℕ → Stat → List ℕ → Tree → StatValue
value_told m s [] T = value_over s []
value_told m s (i ∷ H) T = combined_value s.of (told_value m s (stats_told i T)) (value_told m s H T)

-- what is told behind others, where a shard told
abbrev pub with_told : Option Stats → List Stats → List Stats
with_told None rest = rest
with_told (Some stats) rest = stats ∷ rest

-- what those of the shards told that told the bucket
abbrev pub told_on : List ℕ → Tree → List Stats
told_on [] T = []
told_on (i ∷ H) T = with_told (stats_told i T) (told_on H T)

-- of all these the counts and the absolute values of a number added up, and a statistic combined
abbrev pub counts_of : List Stats → ℕ
counts_of [] = 0
counts_of (stats ∷ rest) = stats.count + counts_of rest

abbrev pub sizes_of : ℕ → List Stats → ℕ
sizes_of m [] = 0
sizes_of m (stats ∷ rest) = size_of (slice_index_or stats.values m (number (pos 0))) + sizes_of m rest

abbrev pub values_of : ℕ → Stat → List Stats → StatValue
values_of m s [] = value_over s []
values_of m s (stats ∷ rest) = combined_value s.of (slice_index_or stats.values m (value_over s [])) (values_of m s rest)

-- the domain of a node: the bucket around it, and the node's number
pub record NodeIn : Type 0 where
  pub tree : Tree
  pub node : ℕ

-- a bucket is a tree
abbrev pub over_tree : Reading Tree NodeIn
over_tree = record {
  domain_on = λ n f H T. record { tree = T; node = n };
  bucket_at = λ kind Y key. child (record { node = Y.node; key = key }) Y.tree;
  count_on = count_told;
  statistic_on = value_told;
  offered_by = λ t inner Y i. offered_at Y.node i Y.tree;
}

-- that a shard has told the bucket
abbrev pub has_told : Tree → ℕ → Bool
has_told T i = is_some (stats_told i T)

-- what lacks of what so many shards told, at the terms facets with e terms facets around them
abbrev pub lacking_in : Request → ℕ → Tree → ℕ → List Lack
lacking_in r n T e = lacking over_tree has_told e r.nodes 0 (numbers_below n) T []

-- what was found to lack at a depth: at less depth nothing lacks, and where nothing was found at none of so many depths
pub record IsFound (lacking_at : ℕ → List Lack) (depths depth : ℕ) (all : List Lack) : Type 0 where
  pub below : (e : ℕ) → e < depth → is_empty (lacking_at e) ≡ true
  pub here : is_empty all ≡ false → (depth < depths) × (all ≡ lacking_at depth)
  pub nowhere : is_empty all ≡ true → depth ≡ depths
