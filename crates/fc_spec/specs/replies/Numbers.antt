-- Numbers of values and of buckets, and the distributed reply with them. Guide: JSON Facet API, "Stat Facet Functions" (`unique`), "Terms Facet" (`numBuckets`).
use Rattle.std.specs.Prelude.{ℕ, pos, List, length, ◌&&◌, ◌==◌, nat_le, Option, None, Some}
use Rattle.std.specs.List.{filter}
use Rattle.fc_spec.specs.documents.Val.{distinct}
use Rattle.fc_spec.specs.words.Lists.{numbers_below}
use Rattle.fc_spec.specs.documents.World.{World, Place, on_shards}
use Rattle.fc_spec.specs.requests.Request.{Show, its_buckets, its_number, number_beside, Terms, Kind, terms, Facet, Nodes, no_nodes, statistic, facet, Request}
use Rattle.fc_spec.specs.requests.Spread.{show_of, show_first}
use Rattle.fc_spec.specs.requests.Base.{root_domain}
use Rattle.fc_spec.specs.requests.Buckets.{has_prefix}
use Rattle.fc_spec.specs.requests.Statistics.{pair_values, value_over, shown}
use Rattle.fc_spec.specs.replies.Reply.{Bucket, bucket, Facets, no_facets}
use Rattle.fc_spec.specs.replies.Printed.{statistic_part, facet_part}
use Rattle.fc_spec.specs.replies.Values.{value_places}
use Rattle.fc_spec.specs.replies.Reading.{PathBucket, over_places}
use Rattle.fc_spec.specs.replies.Distributed.{dist_buckets, root_bucket}
use Rattle.fc_spec.specs.replies.WithTops.{root_buckets}
use Rattle.fc_spec.specs.replies.Folded.{with_count}

-- how many different values the field has in the places
abbrev pub unique_in : ℕ → List Place → ℕ
unique_in field X = length (distinct (pair_values field X))

-- how many values begin with the facet's prefix and have its mincount in the places
abbrev pub buckets_in : Terms → List Place → ℕ
buckets_in t Y = length (filter (λ v. has_prefix t.prefix v && nat_le t.mincount (length (value_places t v Y))) (distinct (pair_values t.field Y)))

-- what a facet that shows its number counts
abbrev pub unique_of : Kind → List Place → ℕ
unique_of (terms t) X = unique_in t.field X
unique_of _ X = 0

-- the number beside a facet's buckets: where a facet that shows it there follows
abbrev pub number_of : (next : Show) → Kind → List Place → Option ℕ
number_of number_beside (terms t) Y = Some (buckets_in t Y)
number_of _ kind Y = None

-- a facet of the bucket X that carries the shards H, where it prints these buckets, and the facets after it
abbrev pub numbered_facet : Request → World → Show → (next : Show) → Facet → List ℕ → PathBucket → (buckets more : Facets) → Facets
numbered_facet r W its_buckets next f H X buckets more =
    let Y = (over_places r W).domain_on 0 f H X in
    facet_part (length (on_shards H X.places) == 0) f (with_count (number_of next f.kind Y.places) buckets) more
numbered_facet r W its_number next f H X buckets more = statistic_part (length (on_shards H X.places) == 0) f.name (Some (pos (unique_of f.kind (on_shards H X.places)))) more
numbered_facet r W number_beside next f H X buckets more = more

-- the facets of the bucket X that carries the shards H: as in the distributed reply, with numbers in the places of statistics and beside buckets
abbrev pub numbered_facets : Request → World → Nodes → List ℕ → PathBucket → Facets
numbered_facets r W no_nodes H X = no_facets
numbered_facets r W (statistic name s rest) H X =
    statistic_part (length (on_shards H X.places) == 0) name (shown (value_over s (on_shards H X.places))) (numbered_facets r W rest H X)
numbered_facets r W (facet f inner rest) H X =
    let R = over_places r W in
    let more = numbered_facets r W rest H X in
    numbered_facet r W (show_of f.kind) (show_first rest) f H X (dist_buckets R f inner (λ K P. numbered_facets r W inner K P) H (R.domain_on 0 f H X) more) more

-- those of the root, exact ones among them
abbrev pub numbered_root : Request → World → Nodes → Facets
numbered_root r W no_nodes = no_facets
numbered_root r W (statistic name s rest) =
    let X = on_shards (numbers_below (length W)) (root_domain r W) in
    statistic_part (length X == 0) name (shown (value_over s X)) (numbered_root r W rest)
numbered_root r W (facet f inner rest) =
    let more = numbered_root r W rest in
    numbered_facet r W (show_of f.kind) (show_first rest) f (numbers_below (length W)) (root_bucket r W) (root_buckets r W 0 f inner (λ K P. numbered_facets r W inner K P) more) more

-- from the root domain, with all shards
abbrev pub numbered : Request → World → Bucket
numbered r W = bucket None (length (on_shards (numbers_below (length W)) (root_domain r W))) (numbered_root r W r.nodes)
