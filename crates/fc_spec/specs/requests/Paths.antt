-- Paths of buckets: what is excluded and tested along them, domains and places there, and refined paths. Guide: JSON Facet API, "Nested Facets"; JSON Faceting Domain Changes.
use Rattle.std.specs.Prelude.{List, [], ◌++◌, Bool, true, ◌&&◌}
use Rattle.std.specs.List.{filter, list_all}
use Rattle.fc_spec.specs.documents.Val.{Text}
use Rattle.fc_spec.specs.documents.Document.{Document}
use Rattle.fc_spec.specs.queries.Matching.{matches}
use Rattle.fc_spec.specs.documents.World.{World, Place, places}
use Rattle.fc_spec.specs.requests.Request.{DomainChange, Facet, Request}
use Rattle.fc_spec.specs.requests.Base.{meets_base, root_domain}
use Rattle.fc_spec.specs.requests.Domain.{changed}
use Rattle.fc_spec.specs.requests.Buckets.{Key, in_bucket, bucket_places}
use Rattle.fc_spec.specs.requests.Shape.{is_refining}

-- from an outermost facet inwards: facets, each with the key of its bucket
pub data Path : Type 0 where
  at_root : Path
  into : Path → Facet → Key → Path

-- the tags that the facets on the path exclude
abbrev pub excluded_on : Path → List Text
excluded_on at_root = []
excluded_on (into path f key) = excluded_on path ++ f.change.exclude

-- the document matches every filter of the domain of each facet on the path, and is in the bucket of its key
abbrev pub meets_path : Path → Document → Bool
meets_path at_root d = true
meets_path (into path f key) d = meets_path path d && list_all (λ q. matches q d) f.change.filters && in_bucket f.kind key d

-- the document meets the path, and the base without these tags and those that the path's facets exclude
abbrev pub meets_rebuilt : Request → Path → List Text → Document → Bool
meets_rebuilt r path tags d = meets_path path d && meets_base r (excluded_on path ++ tags) d

-- what an exclusion in the bucket of a path begins with: such places of the world; of an outermost facet the base without its tags
abbrev pub rebuilt : Request → World → Path → List Text → List Place
rebuilt r W path tags = filter (λ p. meets_rebuilt r path tags p.document) (places W)

-- the domain of a facet in the bucket of a path, over its places X
abbrev pub domain : Request → World → Path → DomainChange → List Place → List Place
domain r W path change X = changed W (rebuilt r W path change.exclude) change X

-- one step further in: the places of a facet's bucket of a key, from those of the bucket around the facet
abbrev pub places_inside : Request → World → Path → Facet → Key → List Place → List Place
places_inside r W path f key X = bucket_places f.kind key (domain r W path f.change X)

-- the places of a path, over all shards
abbrev pub path_places : Request → World → Path → List Place
path_places r W at_root = root_domain r W
path_places r W (into path f key) = places_inside r W path f key (path_places r W path)

-- every terms facet on the path refines or has no limit
abbrev pub is_refined : Path → Bool
is_refined at_root = true
is_refined (into path f key) = is_refined path && is_refining f.kind
