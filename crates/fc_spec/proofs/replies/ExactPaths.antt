-- Refined paths are exact: by recursion over the request's nodes.
use Rattle.std.proofs.Common.{◌≡◌, ℕ, suc, List, [], ◌∷◌, length, Bool, true, false, ◌&&◌, ◌==◌, refl, sym, ◌∙◌, ap, subst, inl, inr, IsTrue}
use Rattle.std.proofs.lemmas.Bool.{and_parts}
use Rattle.fc_spec.specs.documents.Val.{Text}
use Rattle.fc_spec.specs.words.Lists.{is_empty, numbers_below}
use Rattle.fc_spec.specs.documents.World.{World, Place, places, on_shards}
use Rattle.fc_spec.specs.requests.Request.{Kind, terms, range, date_range, query, DomainChange, Facet, Nodes, no_nodes, statistic, facet, Request, stats_of}
use Rattle.fc_spec.specs.requests.Buckets.{Key, whole, is_key_of, in_bucket, bucket_places}
use Rattle.fc_spec.specs.requests.Statistics.{value_over, shown}
use Rattle.fc_spec.specs.replies.Reply.{bucket, Facets, spot_of, val_of, row_of, with_buckets}
use Rattle.fc_spec.specs.replies.Printed.{statistic_part, facet_part}
use Rattle.fc_spec.specs.requests.Paths.{Path, at_root, into, domain, places_inside, path_places, is_refined}
use Rattle.fc_spec.specs.replies.Exact.{exact_keys}
use Rattle.fc_spec.specs.replies.Distributed.{carried, printed_keys, dist_buckets, dist_facets}
use Rattle.fc_spec.specs.replies.WithTops.{root_buckets, root_facets}
use Rattle.fc_spec.specs.laws.TopsLaw.{AreTopPathsExact}
use Rattle.fc_spec.specs.laws.RefinedPaths.{IsBucketOf, IsSomeBucketOf, AreBucketsOf, IsFacetOf, AreFacetsOf, AreRefinedPathsExact}
use Rattle.fc_spec.proofs.replies.PrintedKeys.{every_exact_key, every_printed_key}
use Rattle.fc_spec.proofs.replies.ByOffers.{root_inside, exact_root, offered_root}
use Rattle.fc_spec.specs.requests.Base.{root_domain, meets_base}
use Rattle.fc_spec.specs.requests.Shape.{is_exact, is_refining, no_exclusions}
use Rattle.fc_spec.specs.replies.Reading.{Reading, PathBucket, over_places}
use Rattle.fc_spec.proofs.words.Members.{Every, every_filter}
use Rattle.fc_spec.proofs.documents.Shards.{is_on, every_on_shards, on_shards_every}
use Rattle.fc_spec.proofs.documents.AllShards.{every_place_on}
use Rattle.fc_spec.proofs.replies.PathBuckets.{at_path, in_path}
use Rattle.fc_spec.proofs.replies.Carried.{AreAllowed, IsAllowed, allowed_domain, domain_is, carries_all, carried_holds}

-- the change of the first facet of allowed nodes, and the nodes after it
pub first_allowed : (W : World) (H : List ℕ) (f : Facet) (inner rest : Nodes) → AreAllowed W H (facet f inner rest) → IsAllowed W H f.change
first_allowed W H f inner rest (inl none) = inl (and_parts (is_empty f.change.exclude) (no_exclusions inner) (and_parts (is_empty f.change.exclude && no_exclusions inner) (no_exclusions rest) none).0).0
first_allowed W H f inner rest (inr e) = inr e

pub rest_allowed : (W : World) (H : List ℕ) (f : Facet) (inner rest : Nodes) → AreAllowed W H (facet f inner rest) → AreAllowed W H rest
rest_allowed W H f inner rest (inl none) = inl (and_parts (is_empty f.change.exclude && no_exclusions inner) (no_exclusions rest) none).1
rest_allowed W H f inner rest (inr e) = inr e

-- the nodes nested in it, in the bucket of a key: they exclude nothing, or the bucket carries the shards of the one around it
pub inner_allowed : {B D : Type 0} (R : Reading B D) (W : World) (H : List ℕ) (f : Facet) (inner rest : Nodes) (Y : D) (k : Key) → is_refining f.kind ≡ true → AreAllowed W H (facet f inner rest) → AreAllowed W (carried R f.kind inner H Y k) inner
inner_allowed R W H f inner rest Y k refining (inl none) = inl (and_parts (is_empty f.change.exclude) (no_exclusions inner) (and_parts (is_empty f.change.exclude && no_exclusions inner) (no_exclusions rest) none).0).1
inner_allowed R W H f inner rest Y k refining (inr e) = go (no_exclusions inner) refl
  where
    go : (b : Bool) → no_exclusions inner ≡ b → AreAllowed W (carried R f.kind inner H Y k) inner
    go true none = inl none
    go false holds = inr (carries_all R f.kind inner H Y k refining holds ∙ e)

-- the bucket that a facet prints for one of its keys
bucket_exact : (r : Request) (W : World) (path : Path) (f : Facet) (Inside : Key → Facets → Type 0) (count : Key → ℕ) (inside : Key → Facets) (k : Key) → is_key_of f.kind k ≡ true
    → (IsTrue (is_refined (into path f k)) → IsBucketOf r W (into path f k) (Inside k) (bucket (val_of f.kind k) (count k) (inside k)))
    → IsSomeBucketOf r W path f Inside (spot_of k) (bucket (val_of f.kind k) (count k) (inside k))
bucket_exact r W path f Inside count inside k key h = (k, key, refl, refl, h)

-- a row of them
row_exact : (r : Request) (W : World) (path : Path) (f : Facet) (Inside : Key → Facets → Type 0) (count : Key → ℕ) (inside : Key → Facets) (keys : List Key) → Every (is_key_of f.kind) keys
    → ((k : Key) → IsTrue (is_refined (into path f k)) → IsBucketOf r W (into path f k) (Inside k) (bucket (val_of f.kind k) (count k) (inside k)))
    → AreBucketsOf r W path f Inside (row_of f.kind count inside keys)
row_exact r W path f Inside count inside [] e h = tt
row_exact r W path f Inside count inside (k ∷ ks) e h = (bucket_exact r W path f Inside count inside k e.0 (h k), row_exact r W path f Inside count inside ks e.1 h)

-- the buckets of a facet of any kind
facet_exact : (r : Request) (W : World) (path : Path) (name : Text) (change : DomainChange) (kind : Kind) (Inside : Key → Facets → Type 0) (count : Key → ℕ) (inside : Key → Facets) (keys : List Key) (more : Facets)
    → Every (is_key_of kind) keys
    → ((k : Key) → IsTrue (is_refined (into path (record { name = name; change = change; kind = kind }) k))
    → IsBucketOf r W (into path (record { name = name; change = change; kind = kind }) k) (Inside k) (bucket (val_of kind k) (count k) (inside k)))
    → IsFacetOf r W path (record { name = name; change = change; kind = kind }) kind Inside (with_buckets name kind count inside keys more) more
facet_exact r W path name change (terms t) Inside count inside keys more e h =
    (row_of (terms t) count inside keys, refl, row_exact r W path (record { name = name; change = change; kind = terms t }) Inside count inside keys e h)
facet_exact r W path name change (range g) Inside count inside keys more e h =
    (row_of (range g) count inside keys, refl, row_exact r W path (record { name = name; change = change; kind = range g }) Inside count inside keys e h)
facet_exact r W path name change (date_range g) Inside count inside keys more e h =
    (row_of (date_range g) count inside keys, refl, row_exact r W path (record { name = name; change = change; kind = date_range g }) Inside count inside keys e h)
facet_exact r W path name change (query q) Inside count inside keys more e h =
    (_, refl, bucket_exact r W path (record { name = name; change = change; kind = query q }) Inside count inside whole refl (h whole))

-- the domain of a facet in the bucket of a path that carries the shards H
abbrev pub dist_domain : Request → World → Path → Facet → List ℕ → List Place → List Place
dist_domain r W path f H X = on_shards H (domain r W path f.change (on_shards H X))

-- the shards that a key's bucket in it carries
abbrev pub dist_shards : Request → World → Path → Facet → Nodes → List ℕ → List Place → Key → List ℕ
dist_shards r W path f inner H X k = carried (over_places r W) f.kind inner H (in_path path f (dist_domain r W path f H X)) k

-- the part of the bucket there
abbrev pub dist_part : Request → World → Path → Facet → Nodes → List ℕ → List Place → Key → List Place
dist_part r W path f inner H X k = on_shards (dist_shards r W path f inner H X k) (bucket_places f.kind k (dist_domain r W path f H X))

-- it is the path's places
pub part_is : (r : Request) (W : World) (path : Path) (f : Facet) (inner : Nodes) (H : List ℕ) (X Q : List Place) → IsAllowed W H f.change → on_shards H X ≡ Q → is_refining f.kind ≡ true → (k : Key)
    → dist_part r W path f inner H X k ≡ bucket_places f.kind k (domain r W path f.change Q)
part_is r W path f inner H X Q allowed e refining k =
    carried_holds r W f.kind inner H (in_path path f (dist_domain r W path f H X)) k refining (every_on_shards H (domain r W path f.change (on_shards H X))) ∙ ap (bucket_places f.kind k) (domain_is r W path f.change H X Q allowed e)

-- the facets of a bucket
abbrev pub facets_on : Request → World → Nodes → ℕ → ℕ → List ℕ → Path → List Place → Facets
facets_on r W nodes n m H path X = dist_facets (over_places r W) nodes n m H (at_path path X)

-- wherever the part of a key's bucket on its shards is that of its path, what is inside is right
abbrev pub AreInside : Request → World → Path → Facet → Nodes → (Key → Facets → Type 0) → (List ℕ → PathBucket → Facets) → Type 0
AreInside r W path f inner Inside inside =
    (k : Key) (K : List ℕ) (P : List Place) → AreAllowed W K inner → on_shards K P ≡ path_places r W (into path f k) → Inside k (inside K (at_path (into path f k) P))

-- the buckets of a facet in the bucket of a path
abbrev pub buckets_on : Request → World → Facet → Nodes → (List ℕ → PathBucket → Facets) → List ℕ → Path → List Place → Facets → Facets
buckets_on r W f inner inside H path X more = dist_buckets (over_places r W) f inner inside H (in_path path f (dist_domain r W path f H X)) more

pub offered_exact : (r : Request) (W : World) (path : Path) (f : Facet) (inner rest : Nodes) (Inside : Key → Facets → Type 0) (inside : List ℕ → PathBucket → Facets) → AreInside r W path f inner Inside inside
    → (H : List ℕ) (X : List Place) (more : Facets) → AreAllowed W H (facet f inner rest) → on_shards H X ≡ path_places r W path
    → IsFacetOf r W path f f.kind Inside (buckets_on r W f inner inside H path X more) more
offered_exact r W path f inner rest Inside inside within H X more allowed e =
    let Y = in_path path f (dist_domain r W path f H X) in
    let K = λ (k : Key). dist_shards r W path f inner H X k in
    let P = λ (k : Key). bucket_places f.kind k (dist_domain r W path f H X) in
    let is = part_is r W path f inner H X (path_places r W path) (first_allowed W H f inner rest allowed) e in
    facet_exact r W path f.name f.change f.kind Inside (λ k. length (on_shards (K k) (P k))) (λ k. inside (K k) (at_path (into path f k) (P k)))
    (printed_keys (over_places r W) f.kind inner H Y) more (every_printed_key r W f.kind inner H Y)
    (λ k refined. let refining = (and_parts (is_refined path) (is_refining f.kind) refined).1 in
    (ap length (is refining k), within k (K k) (P k) (inner_allowed (over_places r W) W H f inner rest Y k refining allowed) (is refining k)))

-- the facets of a bucket whose part on its shards is its path's places
pub facets_exact : (r : Request) (W : World) (nodes : Nodes) (n m : ℕ) (H : List ℕ) (path : Path) (X : List Place) → AreAllowed W H nodes → on_shards H X ≡ path_places r W path
    → AreFacetsOf r W nodes path (facets_on r W nodes n m H path X)
facets_exact r W no_nodes n m H path X allowed e = refl
facets_exact r W (statistic name s rest) n m H path X allowed e =
    (_, ap (λ Q. statistic_part (length Q == 0) name (shown (value_over s Q)) (facets_on r W rest (suc n) (suc m) H path X)) e, facets_exact r W rest (suc n) (suc m) H path X allowed e)
facets_exact r W (facet f inner rest) n m H path X allowed e =
    let inside : List ℕ → PathBucket → Facets = λ K P. dist_facets (over_places r W) inner 0 0 K P in
    let more = facets_on r W rest (suc n) m H path X in (
      buckets_on r W f inner inside H path X more,
      more,
      ap (λ Q. facet_part (length Q == 0) f (buckets_on r W f inner inside H path X more) more) e,
      offered_exact r W path f inner rest (λ k facets. AreFacetsOf r W inner (into path f k) facets) inside (λ k K P a h. facets_exact r W inner 0 0 K (into path f k) P a h) H X more allowed e,
      facets_exact r W rest (suc n) m H path X (rest_allowed W H f inner rest allowed) e,
    )

-- the root's bucket, over all shards
pub root_is : (r : Request) (W : World) → on_shards (numbers_below (length W)) (root_domain r W) ≡ root_domain r W
root_is r W = on_shards_every (numbers_below (length W)) (root_domain r W) (every_filter (is_on (numbers_below (length W))) (λ p. meets_base r [] p.document) (places W) (every_place_on W))

-- the facets of the root, exact ones among them
module _ (r : Request) (W : World) where
  abbrev H : List ℕ
  H = numbers_below (length W)

  abbrev X : List Place
  X = root_domain r W

  -- a bucket of a facet whose domain is the path's, on all shards
  pub on_all : (f : Facet) (k : Key) → on_shards H (places_inside r W at_root f k X) ≡ places_inside r W at_root f k X
  on_all f k =
      let root_on = subst (Every (is_on H)) (root_is r W) (every_on_shards H X) in
      on_shards_every H (places_inside r W at_root f k X) (every_filter (is_on H) (λ p. in_bucket f.kind k p.document) (domain r W at_root f.change X) (allowed_domain r W at_root f.change H X (inr refl) root_on))

  -- what a facet prints: by cases on its being exact
  pub printed_exact : (n : ℕ) (f : Facet) (inner rest : Nodes) (Inside : Key → Facets → Type 0) (inside : List ℕ → PathBucket → Facets) → AreInside r W at_root f inner Inside inside
      → (more : Facets) → (b : Bool) → is_exact f.kind ≡ b → IsFacetOf r W at_root f f.kind Inside (root_buckets r W n f inner inside more) more
  printed_exact n f inner rest Inside inside within more true e =
      let Y = domain r W at_root f.change X in
      subst (λ printed. IsFacetOf r W at_root f f.kind Inside printed more) (sym (exact_root r W n f inner inside more e))
      (facet_exact r W at_root f.name f.change f.kind Inside (λ k. length (bucket_places f.kind k Y)) (λ k. inside H (at_path (into at_root f k) (bucket_places f.kind k Y)))
      (exact_keys f.kind (stats_of inner) Y) more (every_exact_key f.kind (stats_of inner) Y)
      (λ k refined. (refl, within k H (bucket_places f.kind k Y) (inr refl) (on_all f k))))
  printed_exact n f inner rest Inside inside within more false e =
      subst (λ printed. IsFacetOf r W at_root f f.kind Inside printed more) (sym (offered_root r W n f inner inside more e))
      (offered_exact r W at_root f inner rest Inside inside within H X more (inr refl) (root_is r W))

  root_exact : (nodes : Nodes) (n m : ℕ) → AreFacetsOf r W nodes at_root (root_facets r W nodes n m)
  root_exact no_nodes n m = refl
  root_exact (statistic name s rest) n m = (_, ap (λ Q. statistic_part (length Q == 0) name (shown (value_over s Q)) (root_facets r W rest (suc n) (suc m))) (root_is r W), root_exact rest (suc n) (suc m))
  root_exact (facet f inner rest) n m =
      let more = root_facets r W rest (suc n) m in (
        root_buckets r W n f inner (root_inside r W inner) more,
        more,
        ap (λ Q. facet_part (length Q == 0) f (root_buckets r W n f inner (root_inside r W inner) more) more) (root_is r W),
        printed_exact n f inner rest (λ k facets. AreFacetsOf r W inner (into at_root f k) facets) (root_inside r W inner) (λ k K P a h. facets_exact r W inner 0 0 K (into at_root f k) P a h) more (is_exact f.kind) refl,
        root_exact rest (suc n) m,
      )

pub top_paths : AreTopPathsExact
top_paths r W = (refl, (ap length (root_is r W), root_exact r W r.nodes 0 0))

pub refined_paths : AreRefinedPathsExact
refined_paths r W =
    (refl, (ap length (root_is r W), facets_exact r W r.nodes 0 0 (numbers_below (length W)) at_root (root_domain r W) (inr refl) (root_is r W)))
