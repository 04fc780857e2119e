-- Where no outermost facet is exact, the reply with top buckets is the distributed one.
use Rattle.std.proofs.Common.{◌≡◌, ℕ, suc, List, length, Bool, true, false, cond, not, ◌&&◌, ◌==◌, None, refl, ◌∙◌, ap}
use Rattle.std.proofs.lemmas.Bool.{false≢true, and_parts, and_from}
use Rattle.fc_spec.specs.words.Lists.{numbers_below}
use Rattle.fc_spec.specs.documents.World.{World, Place, on_shards}
use Rattle.fc_spec.specs.requests.Request.{Kind, terms, range, date_range, query, Facet, Nodes, no_nodes, statistic, facet, Request, stats_of}
use Rattle.fc_spec.specs.requests.Base.{root_domain}
use Rattle.fc_spec.specs.requests.Paths.{at_root, into, domain}
use Rattle.fc_spec.specs.requests.Shape.{has_limit, has_no_limit, is_exact, no_exact, no_limits}
use Rattle.fc_spec.specs.requests.Statistics.{shown, value_over}
use Rattle.fc_spec.specs.replies.Reply.{bucket, Facets}
use Rattle.fc_spec.specs.replies.Printed.{statistic_part, facet_part}
use Rattle.fc_spec.specs.replies.Exact.{exact_buckets}
use Rattle.fc_spec.specs.replies.Reading.{PathBucket, over_places}
use Rattle.fc_spec.specs.replies.Distributed.{dist_buckets, dist_facets, root_bucket, distributed}
use Rattle.fc_spec.specs.replies.WithTops.{root_buckets, root_facets, with_tops}
use Rattle.fc_spec.proofs.replies.PathBuckets.{at_path, in_path}

pub not_true : (b : Bool) → not b ≡ true → b ≡ false
not_true true h = absurd (false≢true h)
not_true false h = refl

module _ (r : Request) (W : World) where
  abbrev H : List ℕ
  H = numbers_below (length W)

  abbrev X : List Place
  X = root_domain r W

  -- what is inside the buckets of a facet of the root
  abbrev pub root_inside : Nodes → List ℕ → PathBucket → Facets
  root_inside inner K P = dist_facets (over_places r W) inner 0 0 K P

  -- what a facet of the root prints by the text of the exact reply, and by what shards offer
  abbrev by_text : Facet → Nodes → (List ℕ → PathBucket → Facets) → Facets → Facets
  by_text f inner inside more = exact_buckets f (stats_of inner) (λ k P. inside H (at_path (into at_root f k) P)) (domain r W at_root f.change X) more

  abbrev offered_ones : Facet → Nodes → (List ℕ → PathBucket → Facets) → Facets → Facets
  offered_ones f inner inside more = dist_buckets (over_places r W) f inner inside H (in_path at_root f (on_shards H (domain r W at_root f.change (on_shards H X)))) more

  -- a facet of the root that is exact, and one that is not
  pub exact_root : (n : ℕ) (f : Facet) (inner : Nodes) (inside : List ℕ → PathBucket → Facets) (more : Facets) → is_exact f.kind ≡ true → root_buckets r W n f inner inside more ≡ by_text f inner inside more
  exact_root n f inner inside more e = ap (λ b. cond b (by_text f inner inside more) (offered_ones f inner inside more)) e

  pub offered_root : (n : ℕ) (f : Facet) (inner : Nodes) (inside : List ℕ → PathBucket → Facets) (more : Facets) → is_exact f.kind ≡ false → root_buckets r W n f inner inside more ≡ offered_ones f inner inside more
  offered_root n f inner inside more e = ap (λ b. cond b (by_text f inner inside more) (offered_ones f inner inside more)) e

  -- the facets of the root
  offers_alone : (nodes : Nodes) (n m : ℕ) → no_exact nodes ≡ true → root_facets r W nodes n m ≡ dist_facets (over_places r W) nodes n m H (root_bucket r W)
  offers_alone no_nodes n m h = refl
  offers_alone (statistic name s rest) n m h = ap (statistic_part (length (on_shards H X) == 0) name (shown (value_over s (on_shards H X)))) (offers_alone rest (suc n) (suc m) h)
  offers_alone (facet f inner rest) n m h =
      let parts = and_parts (not (is_exact f.kind)) (no_exact rest) h in
      let last = root_facets r W rest (suc n) m in
      ap (λ printed. facet_part (length (on_shards H X) == 0) f printed last) (offered_root n f inner (root_inside inner) last (not_true (is_exact f.kind) parts.0))
      ∙ ap (λ more. facet_part (length (on_shards H X) == 0) f (offered_ones f inner (root_inside inner) more) more) (offers_alone rest (suc n) m parts.1)

  pub made_by_offers : no_exact r.nodes ≡ true → with_tops r W ≡ distributed r W
  made_by_offers h = ap (bucket None (length (on_shards H X))) (offers_alone r.nodes 0 0 h)

unlimited_not_exact : (kind : Kind) → has_no_limit kind ≡ true → not (is_exact kind) ≡ true
unlimited_not_exact (terms t) h = go t.exact (has_limit t) h
  where
    go : (a b : Bool) → not b ≡ true → not (a && b) ≡ true
    go true b h = h
    go false b h = refl
unlimited_not_exact (range g) h = refl
unlimited_not_exact (date_range g) h = refl
unlimited_not_exact (query q) h = refl

-- without limits nothing is exact
pub no_limits_no_exact : (nodes : Nodes) → no_limits nodes ≡ true → no_exact nodes ≡ true
no_limits_no_exact no_nodes h = refl
no_limits_no_exact (statistic name s rest) h = no_limits_no_exact rest h
no_limits_no_exact (facet f inner rest) h =
    let parts = and_parts (has_no_limit f.kind && no_limits inner) (no_limits rest) h in
    and_from (not (is_exact f.kind)) (no_exact rest) (unlimited_not_exact f.kind (and_parts (has_no_limit f.kind) (no_limits inner) parts.0).0) (no_limits_no_exact rest parts.1)
