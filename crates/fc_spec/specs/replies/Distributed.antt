-- The distributed reply. Guide: JSON Facet API, "Nested Facets" and "Terms Facet" (`refine`).
use Rattle.std.specs.Prelude.{ℕ, suc, List, [], ◌∷◌, length, None, ◌==◌}
use Rattle.fc_spec.specs.words.Lists.{numbers_below}
use Rattle.fc_spec.specs.documents.World.{World}
use Rattle.fc_spec.specs.requests.Request.{Kind, terms, range, date_range, query, Facet, Nodes, no_nodes, statistic, facet, Request}
use Rattle.fc_spec.specs.requests.Base.{root_domain}
use Rattle.fc_spec.specs.requests.Buckets.{Key, value, whole}
use Rattle.fc_spec.specs.requests.Statistics.{shown}
use Rattle.fc_spec.specs.replies.Reply.{Bucket, bucket, Facets, no_facets, with_buckets}
use Rattle.fc_spec.specs.replies.Printed.{range_keys, terms_keys, statistic_part, facet_part, date_range_keys}
use Rattle.fc_spec.specs.requests.Paths.{at_root}
use Rattle.fc_spec.specs.replies.Reading.{Reading, PathBucket, over_places}
use Rattle.fc_spec.specs.replies.Chosen.{known, chosen_entries}

-- the keys of the buckets that a node prints over its domain on the shards H
abbrev pub printed_keys : {B D : Type 0} → Reading B D → Kind → Nodes → List ℕ → D → List Key
printed_keys R (terms t) inner H Y = terms_keys t (chosen_entries R t inner H Y)
printed_keys R (range g) inner H Y = range_keys g
printed_keys R (date_range g) inner H Y = date_range_keys g
printed_keys R (query q) inner H Y = whole ∷ []

-- the shards that the bucket of a key carries: of a value its known shards, of another key those of the bucket around it
abbrev pub carried : {B D : Type 0} → Reading B D → Kind → Nodes → List ℕ → D → Key → List ℕ
carried R (terms t) inner H Y (value v) = known R t inner H Y v
carried R _ inner H Y _ = H

-- a facet over its domain Y: each bucket carries its shards, and stands over its part there; then the facets after it
abbrev pub dist_buckets : {B D : Type 0} → Reading B D → Facet → Nodes → (List ℕ → B → Facets) → List ℕ → D → Facets → Facets
dist_buckets R f inner inside H Y more =
    with_buckets f.name f.kind (λ k. R.count_on (carried R f.kind inner H Y k) (R.bucket_at f.kind Y k)) (λ k. inside (carried R f.kind inner H Y k) (R.bucket_at f.kind Y k))
    (printed_keys R f.kind inner H Y) more

-- the facets of the bucket X that carries the shards H, for its nodes from the n-th on, behind m statistics
abbrev pub dist_facets : {B D : Type 0} → Reading B D → Nodes → (n m : ℕ) → List ℕ → B → Facets
dist_facets R no_nodes n m H X = no_facets
dist_facets R (statistic name s rest) n m H X = statistic_part (R.count_on H X == 0) name (shown (R.statistic_on m s H X)) (dist_facets R rest (suc n) (suc m) H X)
dist_facets R (facet f inner rest) n m H X =
    let more = dist_facets R rest (suc n) m H X in
    facet_part (R.count_on H X == 0) f (dist_buckets R f inner (λ K P. dist_facets R inner 0 0 K P) H (R.domain_on n f H X) more) more

-- the reply whose root is the bucket X and carries the shards H
abbrev pub reply_over : {B D : Type 0} → Reading B D → Nodes → List ℕ → B → Bucket
reply_over R nodes H X = bucket None (R.count_on H X) (dist_facets R nodes 0 0 H X)

-- the bucket of the root, over all shards
abbrev pub root_bucket : Request → World → PathBucket
root_bucket r W = record { path = at_root; places = root_domain r W }

-- the distributed reply: over places, from the root domain, with all shards
abbrev pub distributed : Request → World → Bucket
distributed r W = reply_over (over_places r W) r.nodes (numbers_below (length W)) (root_bucket r W)
