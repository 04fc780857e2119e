-- Facets that are exact, or have no limit, print the values, counts and statistics of a single index, over their own domain.
use Rattle.std.specs.Prelude.{◌≡◌, length, IsTrue, Option, None, ℤ, Bool, ◌||◌, ◌==◌}
use Rattle.fc_spec.specs.documents.World.{World, single}
use Rattle.fc_spec.specs.requests.Request.{Kind, Facet, Nodes, no_nodes, statistic, facet, Request, stats_of}
use Rattle.fc_spec.specs.requests.Base.{root_domain}
use Rattle.fc_spec.specs.requests.Buckets.{Key}
use Rattle.fc_spec.specs.requests.Paths.{at_root, into, domain, places_inside}
use Rattle.fc_spec.specs.requests.Shape.{has_no_limit, is_exact, no_exact, no_limits}
use Rattle.fc_spec.specs.replies.Reply.{Bucket, bucket, Facets, no_facets, with_number, with_buckets}
use Rattle.fc_spec.specs.replies.Printed.{facet_part}
use Rattle.fc_spec.specs.replies.Exact.{exact, exact_keys}
use Rattle.fc_spec.specs.replies.Distributed.{distributed}
use Rattle.fc_spec.specs.replies.WithTops.{with_tops}
use Rattle.fc_spec.specs.laws.RefinedPaths.{AreFacetsOf, IsBucketOf, val_in}

-- it is exact, or it is no terms facet with a limit
abbrev pub prints_exactly : Kind → Bool
prints_exactly kind = is_exact kind || has_no_limit kind

-- of an outermost facet: the keys that a single index prints, in their order, each with the count of its places, and with facets of which Inside holds
abbrev pub IsTopFacet : Request → World → Facet → Nodes → (Inside : Key → Facets → Type 0) → (printed more : Facets) → Type 0
IsTopFacet r W f inner Inside printed more =
    (inside : Key → Facets)
    × (printed ≡ with_buckets f.name f.kind (λ k. length (places_inside r W at_root f k (root_domain r W))) inside (exact_keys f.kind (stats_of inner) (domain r W at_root f.change (root_domain r W))) more)
    × ((k : Key) → Inside k (inside k))

-- the facets of the root: each that prints exactly is such a facet
abbrev pub AreTopsOf : Request → World → Nodes → Facets → Type 0
AreTopsOf r W no_nodes facets = facets ≡ no_facets
AreTopsOf r W (statistic name s rest) facets = (n : Option ℤ) × (more : Facets) × (facets ≡ with_number name n more) × AreTopsOf r W rest more
AreTopsOf r W (facet f inner rest) facets =
    (printed : Facets) × (more : Facets) × (facets ≡ facet_part (length (root_domain r W) == 0) f printed more)
    × (IsTrue (prints_exactly f.kind) → IsTopFacet r W f inner (λ k inside. AreFacetsOf r W inner (into at_root f k) inside) printed more) × AreTopsOf r W rest more

abbrev pub HasTopsOf : Request → World → Bucket → Type 0
HasTopsOf r W (bucket val count facets) = AreTopsOf r W r.nodes facets

-- so it is in the reply with top buckets
abbrev pub AreTopsExact : Type 0
AreTopsExact = (r : Request) (W : World) → HasTopsOf r W (with_tops r W)

-- its buckets at refined paths are those of the paths, as in the distributed reply
abbrev pub AreTopPathsExact : Type 0
AreTopPathsExact = (r : Request) (W : World) → (val_in (with_tops r W) ≡ None) × IsBucketOf r W at_root (AreFacetsOf r W r.nodes at_root) (with_tops r W)

-- and where no outermost facet is exact, it is that
abbrev pub AreByOffers : Type 0
AreByOffers = (r : Request) (W : World) → IsTrue (no_exact r.nodes) → with_tops r W ≡ distributed r W

-- so without limits it is the exact reply over the same world, and that of a single index
abbrev pub IsExactWithTops : Type 0
IsExactWithTops = (r : Request) (W : World) → IsTrue (no_limits r.nodes) → with_tops r W ≡ exact r W

abbrev pub IsSingleWithTops : Type 0
IsSingleWithTops = (r : Request) (W : World) → IsTrue (no_limits r.nodes) → with_tops r W ≡ exact r (single W)
