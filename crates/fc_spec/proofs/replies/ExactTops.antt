-- Outermost facets that are exact, or have no limit, print what a single index prints.
use Rattle.std.proofs.Common.{◌≡◌, ℤ, ℕ, suc, List, length, Bool, true, false, ◌==◌, Option, None, refl, sym, ◌∙◌, ap, inl, inr}
use Rattle.std.proofs.lemmas.Bool.{false≢true, or_cases}
use Rattle.fc_spec.specs.documents.Val.{Text}
use Rattle.fc_spec.specs.words.Lists.{numbers_below}
use Rattle.fc_spec.specs.documents.World.{World, Place, on_shards}
use Rattle.fc_spec.specs.requests.Request.{Facet, Nodes, no_nodes, statistic, facet, Request, stats_of}
use Rattle.fc_spec.specs.requests.Base.{root_domain}
use Rattle.fc_spec.specs.requests.Buckets.{Key, bucket_places}
use Rattle.fc_spec.specs.requests.Paths.{at_root, into, domain}
use Rattle.fc_spec.specs.requests.Shape.{has_no_limit, is_exact}
use Rattle.fc_spec.specs.requests.Statistics.{value_over, shown}
use Rattle.fc_spec.specs.replies.Reply.{Facets, with_number, with_buckets}
use Rattle.fc_spec.specs.replies.Printed.{statistic_part, facet_part}
use Rattle.fc_spec.specs.replies.Exact.{exact_keys}
use Rattle.fc_spec.specs.replies.Reading.{PathBucket, over_places}
use Rattle.fc_spec.specs.replies.WithTops.{root_buckets, root_facets}
use Rattle.fc_spec.specs.laws.RefinedPaths.{AreFacetsOf}
use Rattle.fc_spec.specs.laws.TopsLaw.{prints_exactly, IsTopFacet, AreTopsOf, AreTopsExact}
use Rattle.fc_spec.proofs.documents.Shards.{every_on_shards}
use Rattle.fc_spec.proofs.replies.ByOffers.{root_inside, exact_root, offered_root}
use Rattle.fc_spec.proofs.replies.Carried.{domain_is}
use Rattle.fc_spec.proofs.replies.PathBuckets.{at_path, in_path}
use Rattle.fc_spec.proofs.replies.ExactPaths.{inner_allowed, dist_domain, dist_shards, part_is, facets_exact, AreInside, root_is, on_all}
use Rattle.fc_spec.proofs.replies.NoLimits.{unlimited_refines, keys_are}

-- the number of a bucket, where it is printed
pub printed_number : Bool → Option ℤ → Option ℤ
printed_number true n = None
printed_number false n = n

pub number_printed : (empty : Bool) (name : Text) (n : Option ℤ) (more : Facets) → statistic_part empty name n more ≡ with_number name (printed_number empty n) more
unfolding printed_number
number_printed true name n more = refl
number_printed false name n more = refl

module _ (r : Request) (W : World) where
  abbrev H : List ℕ
  H = numbers_below (length W)

  abbrev X : List Place
  X = root_domain r W

  -- a facet that is exact
  exact_is_top : (n : ℕ) (f : Facet) (inner : Nodes) (Inside : Key → Facets → Type 0) (inside : List ℕ → PathBucket → Facets) → AreInside r W at_root f inner Inside inside
      → (more : Facets) → is_exact f.kind ≡ true → IsTopFacet r W f inner Inside (root_buckets r W n f inner inside more) more
  exact_is_top n f inner Inside inside within more e =
      let P = λ (k : Key). bucket_places f.kind k (domain r W at_root f.change X) in
      (λ k. inside H (at_path (into at_root f k) (P k)), exact_root r W n f inner inside more e, λ k. within k H (P k) (inr refl) (on_all r W f k))

  -- one that has no limit, and is not exact
  unlimited_is_top : (n : ℕ) (f : Facet) (inner : Nodes) (Inside : Key → Facets → Type 0) (inside : List ℕ → PathBucket → Facets) → AreInside r W at_root f inner Inside inside
      → (more : Facets) → is_exact f.kind ≡ false → has_no_limit f.kind ≡ true → IsTopFacet r W f inner Inside (root_buckets r W n f inner inside more) more
  unlimited_is_top n f inner Inside inside within more e h =
      let Y = in_path at_root f (dist_domain r W at_root f H X) in
      let K = λ (k : Key). dist_shards r W at_root f inner H X k in
      let P = λ (k : Key). bucket_places f.kind k Y.places in
      let refining = unlimited_refines f.kind h in
      let is = part_is r W at_root f inner H X X (inr refl) (root_is r W) refining in
      let in_bucket = λ (k : Key). inside (K k) (at_path (into at_root f k) (P k)) in
      let keys = keys_are r W f.kind inner H Y h (every_on_shards H (domain r W at_root f.change (on_shards H X))) ∙ ap (exact_keys f.kind (stats_of inner)) (domain_is r W at_root f.change H X X (inr refl) (root_is r W)) in (
        in_bucket,
        offered_root r W n f inner inside more e ∙ (λ i. with_buckets f.name f.kind (λ k. length (is k i)) in_bucket (keys i) more),
        λ k. within k (K k) (P k) (inner_allowed (over_places r W) W H f inner no_nodes Y k refining (inr refl)) (is k),
      )

  pub is_top : (n : ℕ) (f : Facet) (inner : Nodes) (Inside : Key → Facets → Type 0) (inside : List ℕ → PathBucket → Facets) → AreInside r W at_root f inner Inside inside
      → (more : Facets) → prints_exactly f.kind ≡ true → (b : Bool) → is_exact f.kind ≡ b → IsTopFacet r W f inner Inside (root_buckets r W n f inner inside more) more
  is_top n f inner Inside inside within more h true e = exact_is_top n f inner Inside inside within more e
  is_top n f inner Inside inside within more h false e = elim (or_cases (is_exact f.kind) (has_no_limit f.kind) h) [
    | inl exact ↦ absurd (false≢true (sym e ∙ exact))
    | inr unlimited ↦ unlimited_is_top n f inner Inside inside within more e unlimited
  ]

  are_tops : (nodes : Nodes) (n m : ℕ) → AreTopsOf r W nodes (root_facets r W nodes n m)
  are_tops no_nodes n m = refl
  are_tops (statistic name s rest) n m =
      let more = root_facets r W rest (suc n) (suc m) in
      (_, more, number_printed (length (on_shards H X) == 0) name (shown (value_over s (on_shards H X))) more, are_tops rest (suc n) (suc m))
  are_tops (facet f inner rest) n m =
      let more = root_facets r W rest (suc n) m in (
        root_buckets r W n f inner (root_inside r W inner) more,
        more,
        ap (λ Q. facet_part (length Q == 0) f (root_buckets r W n f inner (root_inside r W inner) more) more) (root_is r W),
        λ h. is_top n f inner (λ k facets. AreFacetsOf r W inner (into at_root f k) facets) (root_inside r W inner) (λ k K P a is. facets_exact r W inner 0 0 K (into at_root f k) P a is) more h (is_exact f.kind) refl,
        are_tops rest (suc n) m,
      )

pub tops_are_exact : AreTopsExact
tops_are_exact r W = are_tops r W r.nodes 0 0
