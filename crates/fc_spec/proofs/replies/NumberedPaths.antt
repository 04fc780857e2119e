-- The printed reply is exact at refined paths, its numbers too, and has the top buckets of a single index.
use Rattle.std.proofs.Common.{◌≡◌, ℕ, List, length, pos, ◌==◌, Some, None, refl, sym, ap, subst, inr}
use Rattle.fc_spec.specs.words.Lists.{numbers_below}
use Rattle.fc_spec.specs.documents.World.{World, Place, on_shards}
use Rattle.fc_spec.specs.requests.Request.{Show, its_buckets, its_number, number_beside, Facet, Nodes, no_nodes, statistic, facet, Request}
use Rattle.fc_spec.specs.requests.Spread.{show_of, show_first}
use Rattle.fc_spec.specs.requests.Base.{root_domain}
use Rattle.fc_spec.specs.requests.Buckets.{Key}
use Rattle.fc_spec.specs.requests.Paths.{Path, at_root, into, domain, path_places}
use Rattle.fc_spec.specs.requests.Shape.{is_exact}
use Rattle.fc_spec.specs.requests.Statistics.{value_over, shown}
use Rattle.fc_spec.specs.replies.Reply.{Facets}
use Rattle.fc_spec.specs.replies.Printed.{statistic_part, facet_part}
use Rattle.fc_spec.specs.replies.Reading.{PathBucket}
use Rattle.fc_spec.specs.replies.WithTops.{root_buckets}
use Rattle.fc_spec.specs.replies.Folded.{with_count}
use Rattle.fc_spec.specs.replies.Numbers.{unique_of, number_of, numbered_facet, numbered_facets, numbered_root}
use Rattle.fc_spec.specs.laws.RefinedPaths.{IsBucketOf, val_in}
use Rattle.fc_spec.specs.laws.NumberedPaths.{numbered_part, AreNumberedFacetsOf, AreNumberedTopsOf, HasNumberedTopsOf, AreNumberedPathsExact, AreNumberedTopsExact}
use Rattle.fc_spec.proofs.replies.PathBuckets.{at_path}
use Rattle.fc_spec.proofs.replies.Carried.{AreAllowed, domain_is}
use Rattle.fc_spec.proofs.replies.ExactPaths.{first_allowed, rest_allowed, dist_domain, buckets_on, AreInside, offered_exact, printed_exact, root_is}
use Rattle.fc_spec.proofs.replies.ExactTops.{number_printed, is_top}
use Rattle.fc_spec.proofs.replies.FoldedReply.{folds_into_numbers}

-- a facet of a bucket whose part on its shards is its path's places has the path's numbers
numbers_are : (r : Request) (W : World) (path : Path) (f : Facet) (H : List ℕ) (X : List Place) → dist_domain r W path f H X ≡ domain r W path f.change (path_places r W path) → on_shards H X ≡ path_places r W path
    → (s next : Show) (buckets more : Facets) → numbered_facet r W s next f H (at_path path X) buckets more ≡ numbered_part r W path s next f buckets more
numbers_are r W path f H X d e its_buckets next buckets more = λ i. facet_part (length (e i) == 0) f (with_count (number_of next f.kind (d i)) buckets) more
numbers_are r W path f H X d e its_number next buckets more = λ i. statistic_part (length (e i) == 0) f.name (Some (pos (unique_of f.kind (e i)))) more
numbers_are r W path f H X d e number_beside next buckets more = refl

-- the facets of such a bucket
facets_numbered : (r : Request) (W : World) (nodes : Nodes) (H : List ℕ) (path : Path) (X : List Place) → AreAllowed W H nodes → on_shards H X ≡ path_places r W path
    → AreNumberedFacetsOf r W nodes path (numbered_facets r W nodes H (at_path path X))
facets_numbered r W no_nodes H path X allowed e = refl
facets_numbered r W (statistic name s rest) H path X allowed e =
    (_, ap (λ Q. statistic_part (length Q == 0) name (shown (value_over s Q)) (numbered_facets r W rest H (at_path path X))) e, facets_numbered r W rest H path X allowed e)
facets_numbered r W (facet f inner rest) H path X allowed e =
    let inside : List ℕ → PathBucket → Facets = λ K P. numbered_facets r W inner K P in
    let more = numbered_facets r W rest H (at_path path X) in
    let printed = buckets_on r W f inner inside H path X more in (
      printed,
      more,
      numbers_are r W path f H X (domain_is r W path f.change H X (path_places r W path) (first_allowed W H f inner rest allowed) e) e (show_of f.kind) (show_first rest) printed more,
      offered_exact r W path f inner rest (λ k facets. AreNumberedFacetsOf r W inner (into path f k) facets) inside (λ k K P a h. facets_numbered r W inner K (into path f k) P a h) H X more allowed e,
      facets_numbered r W rest H path X (rest_allowed W H f inner rest allowed) e,
    )

-- those of the root
module _ (r : Request) (W : World) where
  abbrev H : List ℕ
  H = numbers_below (length W)

  abbrev X : List Place
  X = root_domain r W

  -- what is inside the buckets of a facet
  abbrev inside : Nodes → List ℕ → PathBucket → Facets
  inside inner K P = numbered_facets r W inner K P

  abbrev Inside : Facet → Nodes → Key → Facets → Type 0
  Inside f inner k facets = AreNumberedFacetsOf r W inner (into at_root f k) facets

  within : (f : Facet) (inner : Nodes) → AreInside r W at_root f inner (Inside f inner) (inside inner)
  within f inner k K P a h = facets_numbered r W inner K (into at_root f k) P a h

  -- a facet, and what is printed behind it
  abbrev buckets_of : Facet → Nodes → Facets → Facets
  buckets_of f inner more = root_buckets r W 0 f inner (inside inner) more

  facet_is : (f : Facet) (inner rest : Nodes) (more : Facets)
      → numbered_facet r W (show_of f.kind) (show_first rest) f H (at_path at_root X) (buckets_of f inner more) more ≡ numbered_part r W at_root (show_of f.kind) (show_first rest) f (buckets_of f inner more) more
  facet_is f inner rest more = numbers_are r W at_root f H X (domain_is r W at_root f.change H X X (inr refl) (root_is r W)) (root_is r W) (show_of f.kind) (show_first rest) (buckets_of f inner more) more

  root_numbered : (nodes : Nodes) → AreNumberedFacetsOf r W nodes at_root (numbered_root r W nodes)
  root_numbered no_nodes = refl
  root_numbered (statistic name s rest) = (_, ap (λ Q. statistic_part (length Q == 0) name (shown (value_over s Q)) (numbered_root r W rest)) (root_is r W), root_numbered rest)
  root_numbered (facet f inner rest) =
      let more = numbered_root r W rest in (
        buckets_of f inner more,
        more,
        facet_is f inner rest more,
        printed_exact r W 0 f inner rest (Inside f inner) (inside inner) (within f inner) more (is_exact f.kind) refl,
        root_numbered rest,
      )

  tops_numbered : (nodes : Nodes) → AreNumberedTopsOf r W nodes (numbered_root r W nodes)
  tops_numbered no_nodes = refl
  tops_numbered (statistic name s rest) =
      let more = numbered_root r W rest in
      (_, more, number_printed (length (on_shards H X) == 0) name (shown (value_over s (on_shards H X))) more, tops_numbered rest)
  tops_numbered (facet f inner rest) =
      let more = numbered_root r W rest in (
        buckets_of f inner more,
        more,
        facet_is f inner rest more,
        λ h. is_top r W 0 f inner (Inside f inner) (inside inner) (within f inner) more h (is_exact f.kind) refl,
        tops_numbered rest,
      )

pub paths_are_exact : AreNumberedPathsExact
paths_are_exact r W spread =
    let is = sym (folds_into_numbers r W spread) in
    (subst (λ b. val_in b ≡ None) is refl, subst (IsBucketOf r W at_root (AreNumberedFacetsOf r W r.nodes at_root)) is (ap length (root_is r W), root_numbered r W r.nodes))

pub tops_are_exact : AreNumberedTopsExact
tops_are_exact r W spread = subst (HasNumberedTopsOf r W) (sym (folds_into_numbers r W spread)) (tops_numbered r W r.nodes)
