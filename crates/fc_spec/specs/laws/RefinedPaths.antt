-- At refined paths each printed bucket has the count and the statistics of its path over all shards.
use Rattle.std.specs.Prelude.{◌≡◌, length, IsTrue, Option, None, ◌==◌}
use Rattle.fc_spec.specs.documents.Val.{Val}
use Rattle.fc_spec.specs.documents.World.{World}
use Rattle.fc_spec.specs.requests.Request.{Kind, query, Facet, Nodes, no_nodes, statistic, facet, Request}
use Rattle.fc_spec.specs.requests.Buckets.{Key, is_key_of}
use Rattle.fc_spec.specs.requests.Statistics.{value_over, shown}
use Rattle.fc_spec.specs.replies.Reply.{Spot, listed, spot_of, val_of, Bucket, bucket, Facets, no_facets, one, many, Row, no_parts, part}
use Rattle.fc_spec.specs.replies.Printed.{statistic_part, facet_part}
use Rattle.fc_spec.specs.requests.Paths.{Path, at_root, into, path_places, is_refined}
use Rattle.fc_spec.specs.replies.Distributed.{distributed}

-- the bucket has the count of the path's places, and facets of which Inside holds
abbrev pub IsBucketOf : Request → World → Path → (Facets → Type 0) → Bucket → Type 0
IsBucketOf r W path Inside (bucket val count facets) = (count ≡ length (path_places r W path)) × Inside facets

-- its `val`
abbrev pub val_in : Bucket → Option Val
val_in (bucket val _ _) = val

-- the bucket stands where that of some key of the facet is printed, under its `val`; and where the path with that key is refined, it is that path's bucket
abbrev pub IsSomeBucketOf : Request → World → Path → Facet → (Key → Facets → Type 0) → Spot → Bucket → Type 0
IsSomeBucketOf r W path f Inside spot b =
    (k : Key) × IsTrue (is_key_of f.kind k) × (spot ≡ spot_of k) × (val_in b ≡ val_of f.kind k) × (IsTrue (is_refined (into path f k)) → IsBucketOf r W (into path f k) (Inside k) b)

-- each bucket of a row does
abbrev pub AreBucketsOf : Request → World → Path → Facet → (Key → Facets → Type 0) → Row → Type 0
AreBucketsOf r W path f Inside no_parts = Unit {0}
AreBucketsOf r W path f Inside (part spot b row) = IsSomeBucketOf r W path f Inside spot b × AreBucketsOf r W path f Inside row

-- the printed facets begin with such buckets of a facet, of a query facet its one, and go on with more
abbrev pub IsFacetOf : Request → World → Path → Facet → Kind → (Key → Facets → Type 0) → Facets → Facets → Type 0
IsFacetOf r W path f (query q) Inside printed more = (b : Bucket) × (printed ≡ one f.name b more) × IsSomeBucketOf r W path f Inside listed b
IsFacetOf r W path f kind Inside printed more = (row : Row) × (printed ≡ many f.name row more) × AreBucketsOf r W path f Inside row

-- the facets printed for these nodes in the bucket of a path: each statistic is that of the path's places, each facet has buckets of longer paths
abbrev pub AreFacetsOf : Request → World → Nodes → Path → Facets → Type 0
AreFacetsOf r W no_nodes path facets = facets ≡ no_facets
AreFacetsOf r W (statistic name s rest) path facets =
    (more : Facets) × (facets ≡ statistic_part (length (path_places r W path) == 0) name (shown (value_over s (path_places r W path))) more) × AreFacetsOf r W rest path more
AreFacetsOf r W (facet f inner rest) path facets =
    (printed : Facets) × (more : Facets) × (facets ≡ facet_part (length (path_places r W path) == 0) f printed more)
    × IsFacetOf r W path f f.kind (λ k inside. AreFacetsOf r W inner (into path f k) inside) printed more × AreFacetsOf r W rest path more

-- the reply is the bucket of the root, and each bucket in it at a refined path is the bucket of that path
abbrev pub AreRefinedPathsExact : Type 0
AreRefinedPathsExact = (r : Request) (W : World) → (val_in (distributed r W) ≡ None) × IsBucketOf r W at_root (AreFacetsOf r W r.nodes at_root) (distributed r W)
