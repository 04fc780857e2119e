-- Under facets that refine or have no limit a bucket's shards hold all places of its path.
use Rattle.std.proofs.Common.{◌≡◌, ℕ, List, length, Bool, true, false, cond, not, ◌||◌, is_some, Option, None, Some, refl, sym, ◌∙◌, ap, subst, ◌⊎◌, inl, inr, is_none}
use Rattle.std.proofs.lemmas.Bool.{false≢true, or_cases}
use Rattle.fc_spec.specs.words.Lists.{is_empty, numbers_below}
use Rattle.fc_spec.specs.documents.World.{World, Place, places, on_shards}
use Rattle.fc_spec.specs.requests.Request.{Terms, Kind, terms, range, date_range, query, DomainChange, Nodes, Request}
use Rattle.fc_spec.specs.requests.Domain.{moved, filtered}
use Rattle.fc_spec.specs.requests.Paths.{Path, meets_rebuilt, rebuilt, domain}
use Rattle.fc_spec.specs.requests.Buckets.{Key, value, missing, gap, before, between, after, whole, in_bucket, bucket_places}
use Rattle.fc_spec.specs.requests.Shape.{is_refining, no_exclusions, asks_again, counts_all}
use Rattle.fc_spec.specs.replies.Reading.{Reading, PathDomain, over_places}
use Rattle.fc_spec.specs.replies.Chosen.{offering}
use Rattle.fc_spec.specs.replies.Distributed.{carried}
use Rattle.fc_spec.proofs.words.Members.{Every, every_filter}
use Rattle.fc_spec.proofs.documents.Shards.{is_on, on_shards_every, every_on_shards, domain_on_shards, moved_on_shards}
use Rattle.fc_spec.proofs.documents.AllShards.{every_place_on}
use Rattle.fc_spec.proofs.replies.Unlimited.{known_holds}

-- the nodes exclude nothing, or they stand in a bucket that carries all shards
abbrev pub AreAllowed : World → List ℕ → Nodes → Type 0
AreAllowed W H nodes = (no_exclusions nodes ≡ true) ⊎ (H ≡ numbers_below (length W))

-- the same of one change
abbrev pub IsAllowed : World → List ℕ → DomainChange → Type 0
IsAllowed W H change = (is_empty change.exclude ≡ true) ⊎ (H ≡ numbers_below (length W))

pub no_limit_is_None : (o : Option ℕ) → is_none o ≡ true → o ≡ None
no_limit_is_None None h = refl
no_limit_is_None (Some n) h = absurd (false≢true h)

-- the domain of an allowed change stays on the shards of the bucket
pub allowed_domain : (r : Request) (W : World) (path : Path) (change : DomainChange) (H : List ℕ) (X : List Place) → IsAllowed W H change → Every (is_on H) X → Every (is_on H) (domain r W path change X)
allowed_domain r W path change H X (inl none) on = domain_on_shards r W path change H X none on
allowed_domain r W path change H X (inr all) on = go (is_empty change.exclude) refl
  where
    base_on : Every (is_on H) (rebuilt r W path change.exclude)
    base_on = subst (λ K. Every (is_on K) (rebuilt r W path change.exclude)) (sym all) (every_filter (is_on (numbers_below (length W))) (λ p. meets_rebuilt r path change.exclude p.document) (places W) (every_place_on W))

    go : (b : Bool) → is_empty change.exclude ≡ b → Every (is_on H) (filtered change.filters (moved W change.block (cond b X (rebuilt r W path change.exclude))))
    go true e = every_filter (is_on H) _ (moved W change.block X) (moved_on_shards W change.block H X on)
    go false e = every_filter (is_on H) _ (moved W change.block (rebuilt r W path change.exclude)) (moved_on_shards W change.block H (rebuilt r W path change.exclude) base_on)

-- the distributed domain is the domain of the path's places
pub domain_is : (r : Request) (W : World) (path : Path) (change : DomainChange) (H : List ℕ) (X Q : List Place) → IsAllowed W H change → on_shards H X ≡ Q
    → on_shards H (domain r W path change (on_shards H X)) ≡ domain r W path change Q
domain_is r W path change H X Q allowed e =
    on_shards_every H (domain r W path change (on_shards H X)) (allowed_domain r W path change H (on_shards H X) allowed (every_on_shards H X)) ∙ ap (domain r W path change) e

refining_cases : (t : Terms) → is_refining (terms t) ≡ true → (t.refine ≡ true) ⊎ (t.limit ≡ None)
refining_cases t h = elim (or_cases t.refine (is_none t.limit) h) [ inl e ↦ inl e | inr e ↦ inr (no_limit_is_None t.limit e) ]

or_true : (b : Bool) → (b || true) ≡ true
or_true true = refl
or_true false = refl

-- a terms facet that refines or has no limit, and holds an exclusion, counts on all shards
counts_all_true : (t : Terms) (inner : Nodes) → is_refining (terms t) ≡ true → no_exclusions inner ≡ false → counts_all t inner ≡ true
counts_all_true t inner h holds = go (refining_cases t h)
  where
    go : (t.refine ≡ true) ⊎ (t.limit ≡ None) → counts_all t inner ≡ true
    go (inl refines) = ap (λ b. b || asks_again t inner) refines
    go (inr none) = ap (λ o. t.refine || cond (is_some o) t.refine (not (no_exclusions inner))) none ∙ ap (λ b. t.refine || not b) holds ∙ or_true t.refine

-- so the buckets of a refining facet that holds an exclusion carry the shards of the bucket around them
pub carries_all : {B D : Type 0} (R : Reading B D) (kind : Kind) (inner : Nodes) (H : List ℕ) (Y : D) (key : Key) → is_refining kind ≡ true → no_exclusions inner ≡ false → carried R kind inner H Y key ≡ H
carries_all R (terms t) inner H Y (value v) h holds = ap (λ b. cond b H (offering R t inner H Y v)) (counts_all_true t inner h holds)
carries_all R _ inner H Y _ h holds = refl

-- a bucket's shards hold all places of its key
pub carried_holds : (r : Request) (W : World) (kind : Kind) (inner : Nodes) (H : List ℕ) (Y : PathDomain) (key : Key) → is_refining kind ≡ true → Every (is_on H) Y.places
    → on_shards (carried (over_places r W) kind inner H Y key) (bucket_places kind key Y.places) ≡ bucket_places kind key Y.places
carried_holds r W (terms t) inner H Y (value v) h on = known_holds r W t inner H Y v (refining_cases t h) on
carried_holds r W (terms t) inner H Y missing h on = on_shards_every H (bucket_places (terms t) missing Y.places) (every_filter (is_on H) (λ p. in_bucket (terms t) missing p.document) Y.places on)
carried_holds r W (terms t) inner H Y (gap i) h on = on_shards_every H (bucket_places (terms t) (gap i) Y.places) (every_filter (is_on H) (λ p. in_bucket (terms t) (gap i) p.document) Y.places on)
carried_holds r W (terms t) inner H Y before h on = on_shards_every H (bucket_places (terms t) before Y.places) (every_filter (is_on H) (λ p. in_bucket (terms t) before p.document) Y.places on)
carried_holds r W (terms t) inner H Y between h on = on_shards_every H (bucket_places (terms t) between Y.places) (every_filter (is_on H) (λ p. in_bucket (terms t) between p.document) Y.places on)
carried_holds r W (terms t) inner H Y after h on = on_shards_every H (bucket_places (terms t) after Y.places) (every_filter (is_on H) (λ p. in_bucket (terms t) after p.document) Y.places on)
carried_holds r W (terms t) inner H Y whole h on = on_shards_every H (bucket_places (terms t) whole Y.places) (every_filter (is_on H) (λ p. in_bucket (terms t) whole p.document) Y.places on)
carried_holds r W (range g) inner H Y key h on = on_shards_every H (bucket_places (range g) key Y.places) (every_filter (is_on H) (λ p. in_bucket (range g) key p.document) Y.places on)
carried_holds r W (date_range g) inner H Y key h on = on_shards_every H (bucket_places (date_range g) key Y.places) (every_filter (is_on H) (λ p. in_bucket (date_range g) key p.document) Y.places on)
carried_holds r W (query q) inner H Y key h on = on_shards_every H (bucket_places (query q) key Y.places) (every_filter (is_on H) (λ p. in_bucket (query q) key p.document) Y.places on)
