-- What the text of the distributed reply asks of buckets, apart from how they are held; and how places answer.
use Rattle.std.specs.Prelude.{ℕ, List, [], ◌∷◌, map, length}
use Rattle.std.specs.List.{enumerate_from}
use Rattle.fc_spec.specs.documents.Val.{Val}
use Rattle.fc_spec.specs.documents.World.{World, Place, on_shards}
use Rattle.fc_spec.specs.requests.Request.{Stat, Terms, Kind, Facet, Nodes, Request, stats_of}
use Rattle.fc_spec.specs.requests.Paths.{Path, into, domain}
use Rattle.fc_spec.specs.requests.Buckets.{Key, bucket_places}
use Rattle.fc_spec.specs.requests.Statistics.{StatValue, Stats, value_over}
use Rattle.fc_spec.specs.requests.Ranks.{below_rank, offered_bound}
use Rattle.fc_spec.specs.replies.Values.{entries_in}

-- B holds a bucket, D the domain of a node. A list of shards names each once; nodes and statistics are numbered from 0 among those of their bucket
pub record Reading (B D : Type 0) : Type 0 where
  -- the domain of a facet, by its number among the nodes: made from the bucket's part on the shards, and cut to the shards
  pub domain_on : ℕ → Facet → List ℕ → B → D
  -- the bucket of a key in a domain
  pub bucket_at : Kind → D → Key → B
  -- the count of the bucket's part on the shards
  pub count_on : List ℕ → B → ℕ
  -- a statistic of that part, by its number
  pub statistic_on : ℕ → Stat → List ℕ → B → StatValue
  -- the values that a shard offers of a terms facet with these nested nodes, in index order
  pub offered_by : Terms → Nodes → D → ℕ → List Val

-- the count of the bucket's part on the shards, and its statistics in order
abbrev pub stats_on : {B D : Type 0} → Reading B D → List Stat → List ℕ → B → Stats
stats_on R ss H X = record { count = R.count_on H X; values = map (λ s. R.statistic_on s.0 s.1 H X) (enumerate_from 0 ss) }

-- a shard ranks its own values over its own places, and offers those below the bound. Guide: JSON Facet API, "Terms Facet" (`overrequest`)
abbrev pub offered : Terms → Nodes → List Place → ℕ → List Val
offered t inner Y i = map (λ e. e.val) (below_rank t.sort (offered_bound t) (entries_in t (stats_of inner) (on_shards (i ∷ []) Y)))

-- a bucket of a reading over places: the path that leads to it, and its places
pub record PathBucket : Type 0 where
  pub path : Path
  pub places : List Place

-- the domain of a facet in such a bucket
pub record PathDomain : Type 0 where
  pub path : Path
  pub facet : Facet
  pub places : List Place

-- a bucket of a domain is asked for by the kind of the domain's own facet
abbrev pub over_places : Request → World → Reading PathBucket PathDomain
over_places r W = record {
  domain_on = λ n f H X. record { path = X.path; facet = f; places = on_shards H (domain r W X.path f.change (on_shards H X.places)) };
  bucket_at = λ kind Y key. record { path = into Y.path Y.facet key; places = bucket_places kind key Y.places };
  count_on = λ H X. length (on_shards H X.places);
  statistic_on = λ m s H X. value_over s (on_shards H X.places);
  offered_by = λ t inner Y i. offered t inner Y.places i;
}
