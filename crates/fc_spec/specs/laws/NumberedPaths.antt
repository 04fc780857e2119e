-- At refined paths each printed bucket has the count, the statistics and the numbers of values and of buckets of its path over all shards; outermost facets that are exact, or have no limit, print those of a single index.
use Rattle.std.specs.Prelude.{◌≡◌, pos, length, IsTrue, Option, Some, None, ℤ, ◌==◌}
use Rattle.fc_spec.specs.documents.World.{World}
use Rattle.fc_spec.specs.requests.Request.{Show, its_buckets, its_number, number_beside, Facet, Nodes, no_nodes, statistic, facet, Request}
use Rattle.fc_spec.specs.requests.Spread.{show_of, show_first, IsSpread}
use Rattle.fc_spec.specs.requests.Statistics.{value_over, shown}
use Rattle.fc_spec.specs.requests.Paths.{Path, at_root, into, domain, path_places}
use Rattle.fc_spec.specs.replies.Reply.{Bucket, bucket, Facets, no_facets, with_number}
use Rattle.fc_spec.specs.replies.Printed.{statistic_part, facet_part}
use Rattle.fc_spec.specs.replies.Folded.{with_count}
use Rattle.fc_spec.specs.replies.Numbers.{unique_of, number_of}
use Rattle.fc_spec.specs.replies.Replied.{replied}
use Rattle.fc_spec.specs.laws.RefinedPaths.{IsBucketOf, IsFacetOf, val_in}
use Rattle.fc_spec.specs.laws.TopsLaw.{prints_exactly, IsTopFacet}

-- what is printed of a facet in the bucket of a path, with numbers over the path's places, and of those behind it: its buckets, with their number where that is asked for; the number of a field's values; or nothing, since its number stands beside the buckets before it
abbrev pub numbered_part : Request → World → Path → Show → (next : Show) → Facet → (buckets more : Facets) → Facets
numbered_part r W path its_buckets next f buckets more =
    facet_part (length (path_places r W path) == 0) f (with_count (number_of next f.kind (domain r W path f.change (path_places r W path))) buckets) more
numbered_part r W path its_number next f buckets more = statistic_part (length (path_places r W path) == 0) f.name (Some (pos (unique_of f.kind (path_places r W path)))) more
numbered_part r W path number_beside next f buckets more = more

-- the facets printed for these nodes in the bucket of a path: each statistic and each number is that of the path's places, each facet that shows its buckets has those of longer paths
abbrev pub AreNumberedFacetsOf : Request → World → Nodes → Path → Facets → Type 0
AreNumberedFacetsOf r W no_nodes path facets = facets ≡ no_facets
AreNumberedFacetsOf r W (statistic name s rest) path facets =
    (more : Facets) × (facets ≡ statistic_part (length (path_places r W path) == 0) name (shown (value_over s (path_places r W path))) more) × AreNumberedFacetsOf r W rest path more
AreNumberedFacetsOf r W (facet f inner rest) path facets =
    (printed : Facets) × (more : Facets) × (facets ≡ numbered_part r W path (show_of f.kind) (show_first rest) f printed more)
    × IsFacetOf r W path f f.kind (λ k inside. AreNumberedFacetsOf r W inner (into path f k) inside) printed more × AreNumberedFacetsOf r W rest path more

-- the facets of the root: each that prints exactly and shows its buckets has those of a single index, with its number where it is asked for
abbrev pub AreNumberedTopsOf : Request → World → Nodes → Facets → Type 0
AreNumberedTopsOf r W no_nodes facets = facets ≡ no_facets
AreNumberedTopsOf r W (statistic name s rest) facets = (n : Option ℤ) × (more : Facets) × (facets ≡ with_number name n more) × AreNumberedTopsOf r W rest more
AreNumberedTopsOf r W (facet f inner rest) facets =
    (printed : Facets) × (more : Facets) × (facets ≡ numbered_part r W at_root (show_of f.kind) (show_first rest) f printed more)
    × (IsTrue (prints_exactly f.kind) → IsTopFacet r W f inner (λ k inside. AreNumberedFacetsOf r W inner (into at_root f k) inside) printed more) × AreNumberedTopsOf r W rest more

abbrev pub HasNumberedTopsOf : Request → World → Bucket → Type 0
HasNumberedTopsOf r W (bucket val count facets) = AreNumberedTopsOf r W r.nodes facets

-- where numbers are asked for as they are spread, the printed reply is the bucket of the root, and each bucket in it at a refined path is the bucket of that path
abbrev pub AreNumberedPathsExact : Type 0
AreNumberedPathsExact = (r : Request) (W : World) → IsSpread r → (val_in (replied r W) ≡ None) × IsBucketOf r W at_root (AreNumberedFacetsOf r W r.nodes at_root) (replied r W)

-- and it has the top buckets of a single index
abbrev pub AreNumberedTopsExact : Type 0
AreNumberedTopsExact = (r : Request) (W : World) → IsSpread r → HasNumberedTopsOf r W (replied r W)
