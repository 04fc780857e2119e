-- Without limits the distributed reply is the exact reply: by recursion over the request's nodes.
use Rattle.std.proofs.Common.{◌≡◌, ℕ, suc, List, length, true, ◌&&◌, ◌==◌, None, is_none, refl, ◌∙◌, ap, inr}
use Rattle.std.proofs.lemmas.Bool.{and_parts, or_right}
use Rattle.fc_spec.specs.words.Lists.{numbers_below}
use Rattle.fc_spec.specs.documents.World.{World, Place, on_shards}
use Rattle.fc_spec.specs.requests.Request.{Kind, terms, range, date_range, query, Nodes, no_nodes, statistic, facet, Request, stats_of}
use Rattle.fc_spec.specs.requests.Base.{root_domain}
use Rattle.fc_spec.specs.requests.Paths.{Path, at_root, into, domain}
use Rattle.fc_spec.specs.requests.Buckets.{Key, bucket_places}
use Rattle.fc_spec.specs.requests.Statistics.{value_over, shown}
use Rattle.fc_spec.specs.replies.Reply.{bucket, with_buckets}
use Rattle.fc_spec.specs.replies.Printed.{terms_keys, statistic_part, facet_part}
use Rattle.fc_spec.specs.requests.Shape.{has_no_limit, is_refining, no_limits}
use Rattle.fc_spec.specs.replies.Exact.{exact_keys, exact_facets}
use Rattle.fc_spec.specs.replies.Reading.{PathDomain, over_places}
use Rattle.fc_spec.specs.replies.Distributed.{carried, printed_keys}
use Rattle.fc_spec.specs.laws.WithoutLimits.{IsExactWithoutLimits}
use Rattle.fc_spec.proofs.words.Members.{Every}
use Rattle.fc_spec.proofs.documents.Shards.{is_on, every_on_shards}
use Rattle.fc_spec.proofs.replies.Unlimited.{chosen_entries_all}
use Rattle.fc_spec.proofs.replies.Carried.{AreAllowed, no_limit_is_None, domain_is}
use Rattle.fc_spec.proofs.replies.PathBuckets.{in_path}
use Rattle.fc_spec.proofs.replies.ExactPaths.{dist_domain, facets_on, part_is, first_allowed, rest_allowed, inner_allowed, root_is}

pub unlimited_refines : (kind : Kind) → has_no_limit kind ≡ true → is_refining kind ≡ true
unlimited_refines (terms t) h = or_right t.refine (is_none t.limit) h
unlimited_refines (range g) h = refl
unlimited_refines (date_range g) h = refl
unlimited_refines (query q) h = refl

-- the keys printed over places on the shards are those of a single index
pub keys_are : (r : Request) (W : World) (kind : Kind) (inner : Nodes) (H : List ℕ) (Y : PathDomain) → has_no_limit kind ≡ true → Every (is_on H) Y.places → printed_keys (over_places r W) kind inner H Y ≡ exact_keys kind (stats_of inner) Y.places
keys_are r W (terms t) inner H Y h on = ap (terms_keys t) (chosen_entries_all r W t inner H Y (no_limit_is_None t.limit h) on)
keys_are r W (range g) inner H Y h on = refl
keys_are r W (date_range g) inner H Y h on = refl
keys_are r W (query q) inner H Y h on = refl

-- the facets of a bucket whose part on its shards is Q are the exact ones over Q
pub facets_are : (r : Request) (W : World) (nodes : Nodes) (n m : ℕ) (H : List ℕ) (path : Path) (X Q : List Place) → no_limits nodes ≡ true → AreAllowed W H nodes → on_shards H X ≡ Q
    → facets_on r W nodes n m H path X ≡ exact_facets r W nodes path Q
facets_are r W no_nodes n m H path X Q unlimited allowed e = refl
facets_are r W (statistic name s rest) n m H path X Q unlimited allowed e =
    let more = facets_are r W rest (suc n) (suc m) H path X Q unlimited allowed e in
    λ i. statistic_part (length (e i) == 0) name (shown (value_over s (e i))) (more i)
facets_are r W (facet f inner rest) n m H path X Q unlimited allowed e =
    let parts = and_parts (has_no_limit f.kind && no_limits inner) (no_limits rest) unlimited in
    let limits = and_parts (has_no_limit f.kind) (no_limits inner) parts.0 in
    let Y = in_path path f (dist_domain r W path f H X) in
    let K = λ (k : Key). carried (over_places r W) f.kind inner H Y k in
    let is = part_is r W path f inner H X Q (first_allowed W H f inner rest allowed) e (unlimited_refines f.kind limits.0) in
    let insides = λ (k : Key). facets_are r W inner 0 0 (K k) (into path f k) (bucket_places f.kind k Y.places) (bucket_places f.kind k (domain r W path f.change Q)) limits.1 (inner_allowed (over_places r W) W H f inner rest Y k (unlimited_refines f.kind limits.0) allowed) (is k) in
    let keys = keys_are r W f.kind inner H Y limits.0 (every_on_shards H (domain r W path f.change (on_shards H X))) ∙ ap (exact_keys f.kind (stats_of inner)) (domain_is r W path f.change H X Q (first_allowed W H f inner rest allowed) e) in
    let more = facets_are r W rest (suc n) m H path X Q parts.1 (rest_allowed W H f inner rest allowed) e in
    λ i. facet_part (length (e i) == 0) f (with_buckets f.name f.kind (λ k. length (is k i)) (λ k. insides k i) (keys i) (more i)) (more i)

pub exact_without_limits : IsExactWithoutLimits
exact_without_limits r W unlimited =
    let same = facets_are r W r.nodes 0 0 (numbers_below (length W)) at_root (root_domain r W) (root_domain r W) unlimited (inr refl) (root_is r W) in
    λ i. bucket None (length (root_is r W i)) (same i)
