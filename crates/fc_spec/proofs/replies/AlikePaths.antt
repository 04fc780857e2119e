-- Paths along which the same tags are excluded, and that the same documents meet: the buckets of the same places at their ends print the same.
use Rattle.std.proofs.Common.{◌≡◌, ℕ, suc, List, ◌++◌, length, ◌&&◌, ◌==◌, cond, refl, ◌∙◌, ap}
use Rattle.std.specs.List.{filter, list_all}
use Rattle.fc_spec.specs.documents.Val.{has_val}
use Rattle.fc_spec.specs.documents.Document.{Document}
use Rattle.fc_spec.specs.documents.World.{World, Place, places, on_shards}
use Rattle.fc_spec.specs.queries.Matching.{matches}
use Rattle.fc_spec.specs.requests.Request.{Kind, terms, range, date_range, query, DomainChange, Facet, Nodes, no_nodes, statistic, facet, Request}
use Rattle.fc_spec.specs.requests.Base.{meets_base}
use Rattle.fc_spec.specs.requests.Domain.{changed}
use Rattle.fc_spec.specs.requests.Paths.{Path, into, excluded_on, meets_path, domain}
use Rattle.fc_spec.specs.requests.Buckets.{Key, value, missing, gap, before, between, after, whole, in_bucket, bucket_places}
use Rattle.fc_spec.specs.requests.Shape.{counts_all}
use Rattle.fc_spec.specs.requests.Statistics.{shown, value_over}
use Rattle.fc_spec.specs.replies.Reply.{with_buckets}
use Rattle.fc_spec.specs.replies.Printed.{terms_keys, statistic_part, facet_part}
use Rattle.fc_spec.specs.replies.Reading.{PathDomain, offered, over_places}
use Rattle.fc_spec.specs.replies.Chosen.{chosen_entries}
use Rattle.fc_spec.specs.replies.Distributed.{carried, printed_keys}
use Rattle.fc_spec.proofs.replies.PathBuckets.{in_path}
use Rattle.fc_spec.proofs.replies.ExactPaths.{dist_domain, facets_on}

pub record AreAlike (p q : Path) : Type 0 where
  pub excluded : excluded_on p ≡ excluded_on q
  pub met : (d : Document) → meets_path p d ≡ meets_path q d

-- one step further in, by facets of one change and keys that the same documents have
pub into_alike : (p q : Path) (f g : Facet) (k l : Key) → AreAlike p q → f.change ≡ g.change → ((d : Document) → in_bucket f.kind k d ≡ in_bucket g.kind l d) → AreAlike (into p f k) (into q g l)
into_alike p q f g k l alike change same = record {
  excluded = λ i. alike.excluded i ++ (change i).exclude;
  met = λ d. (λ i. alike.met d i && list_all (λ t. matches t d) (change i).filters && same d i);
}

module _ (r : Request) (W : World) where
  -- domains there are the same
  domain_alike : (p q : Path) → AreAlike p q → (change : DomainChange) (X : List Place) → domain r W p change X ≡ domain r W q change X
  domain_alike p q alike change X = λ i. changed W (filter (λ x. alike.met x.document i && meets_base r (alike.excluded i ++ change.exclude) x.document) (places W)) change X

  -- what is printed hangs on places alone
  carried_alike : (kind : Kind) (inner : Nodes) (H : List ℕ) (Y Z : PathDomain) → Y.places ≡ Z.places → (k : Key) → carried (over_places r W) kind inner H Y k ≡ carried (over_places r W) kind inner H Z k
  carried_alike (terms t) inner H Y Z e (value v) = ap (λ P. cond (counts_all t inner) H (filter (λ i. has_val v (offered t inner P i)) H)) e
  carried_alike (terms t) inner H Y Z e missing = refl
  carried_alike (terms t) inner H Y Z e (gap i) = refl
  carried_alike (terms t) inner H Y Z e before = refl
  carried_alike (terms t) inner H Y Z e between = refl
  carried_alike (terms t) inner H Y Z e after = refl
  carried_alike (terms t) inner H Y Z e whole = refl
  carried_alike (range g) inner H Y Z e k = refl
  carried_alike (date_range g) inner H Y Z e k = refl
  carried_alike (query t) inner H Y Z e k = refl

  printed_alike : (kind : Kind) (inner : Nodes) (H : List ℕ) (Y Z : PathDomain) → Y.places ≡ Z.places → printed_keys (over_places r W) kind inner H Y ≡ printed_keys (over_places r W) kind inner H Z
  printed_alike (terms t) inner H Y Z e = ap (λ P. terms_keys t (chosen_entries (over_places r W) t inner H (record Y { places = P }))) e
  printed_alike (range g) inner H Y Z e = refl
  printed_alike (date_range g) inner H Y Z e = refl
  printed_alike (query t) inner H Y Z e = refl

  -- the facets of a bucket
  pub facets_alike : (nodes : Nodes) (p q : Path) → AreAlike p q → (n m : ℕ) (H : List ℕ) (X : List Place) → facets_on r W nodes n m H p X ≡ facets_on r W nodes n m H q X
  facets_alike no_nodes p q alike n m H X = refl
  facets_alike (statistic name s rest) p q alike n m H X =
      ap (statistic_part (length (on_shards H X) == 0) name (shown (value_over s (on_shards H X)))) (facets_alike rest p q alike (suc n) (suc m) H X)
  facets_alike (facet f inner rest) p q alike n m H X =
      let Y = dist_domain r W p f H X in
      let Z = dist_domain r W q f H X in
      let over : Y ≡ Z = ap (on_shards H) (domain_alike p q alike f.change (on_shards H X)) in
      let shards = λ (k : Key). carried_alike f.kind inner H (in_path p f Y) (in_path q f Z) over k in
      let insides = λ (k : Key). facets_alike inner (into p f k) (into q f k) (into_alike p q f f k k alike refl (λ d. refl)) 0 0 (carried (over_places r W) f.kind inner H (in_path p f Y) k) (bucket_places f.kind k Y)
      ∙ (λ i. facets_on r W inner 0 0 (shards k i) (into q f k) (bucket_places f.kind k (over i))) in
      let keys = printed_alike f.kind inner H (in_path p f Y) (in_path q f Z) over in
      let more = facets_alike rest p q alike (suc n) m H X in
      λ i. facet_part (length (on_shards H X) == 0) f (with_buckets f.name f.kind (λ k. length (on_shards (shards k i) (bucket_places f.kind k (over i)))) (λ k. insides k i) (keys i) (more i)) (more i)
