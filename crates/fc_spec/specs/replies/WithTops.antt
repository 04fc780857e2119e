-- The distributed reply, in which exact facets print the top buckets of a single index. Guide: JSON Facet API, "Terms Facet" (`refine`).
use Rattle.std.specs.Prelude.{ℕ, suc, List, length, None, ◌==◌, if◌then◌else◌}
use Rattle.fc_spec.specs.words.Lists.{numbers_below}
use Rattle.fc_spec.specs.documents.World.{World}
use Rattle.fc_spec.specs.requests.Request.{Facet, Nodes, no_nodes, statistic, facet, Request, stats_of}
use Rattle.fc_spec.specs.requests.Base.{root_domain}
use Rattle.fc_spec.specs.requests.Paths.{at_root, into, domain}
use Rattle.fc_spec.specs.requests.Shape.{is_exact}
use Rattle.fc_spec.specs.requests.Statistics.{shown}
use Rattle.fc_spec.specs.replies.Reply.{Bucket, bucket, Facets, no_facets}
use Rattle.fc_spec.specs.replies.Printed.{statistic_part, facet_part}
use Rattle.fc_spec.specs.replies.Exact.{exact_buckets}
use Rattle.fc_spec.specs.replies.Reading.{PathBucket, over_places}
use Rattle.fc_spec.specs.replies.Distributed.{root_bucket, dist_buckets, dist_facets}

-- a facet of the root, with what is inside its buckets. One that is refined exactly prints as in a single index, over its domain on all shards, and each of its buckets carries all shards
abbrev pub root_buckets : Request → World → ℕ → Facet → Nodes → (List ℕ → PathBucket → Facets) → Facets → Facets
root_buckets r W n f inner inside more =
    let H = numbers_below (length W) in
    if is_exact f.kind
    then exact_buckets f (stats_of inner) (λ k P. inside H (record { path = into at_root f k; places = P })) (domain r W at_root f.change (root_domain r W)) more
    else dist_buckets (over_places r W) f inner inside H ((over_places r W).domain_on n f H (root_bucket r W)) more

-- the facets of the root, for its nodes from the n-th on, behind m statistics
abbrev pub root_facets : Request → World → Nodes → (n m : ℕ) → Facets
root_facets r W no_nodes n m = no_facets
root_facets r W (statistic name s rest) n m =
    let R = over_places r W in
    let H = numbers_below (length W) in
    statistic_part (R.count_on H (root_bucket r W) == 0) name (shown (R.statistic_on m s H (root_bucket r W))) (root_facets r W rest (suc n) (suc m))
root_facets r W (facet f inner rest) n m =
    let R = over_places r W in
    let more = root_facets r W rest (suc n) m in
    facet_part (R.count_on (numbers_below (length W)) (root_bucket r W) == 0) f (root_buckets r W n f inner (λ K P. dist_facets R inner 0 0 K P) more) more

-- only outermost facets are exact; where none is, it is the distributed reply
abbrev pub with_tops : Request → World → Bucket
with_tops r W = bucket None ((over_places r W).count_on (numbers_below (length W)) (root_bucket r W)) (root_facets r W r.nodes 0 0)
