-- The one bucket of a query facet.
use Rattle.std.proofs.Common.{◌≡◌, List, [], ◌∷◌, map, Bool, true, ◌&&◌, Some, refl, ap, sym, subst, ◌∙◌}
use Rattle.std.proofs.Math.Bool.{and_comm}
use Rattle.fc_spec.specs.documents.Document.{Block}
use Rattle.fc_spec.specs.documents.Sets.{zip_with}
use Rattle.fc_spec.specs.documents.Totals.{documents_in}
use Rattle.fc_spec.specs.documents.World.{Place}
use Rattle.fc_spec.specs.messages.KeyOrder.{same_key}
use Rattle.fc_spec.specs.queries.Matching.{matches}
use Rattle.fc_spec.specs.queries.Query.{Query}
use Rattle.fc_spec.specs.requests.Buckets.{Key, value, missing, gap, before, between, after, whole, is_key_of, is_whole, bucket_places}
use Rattle.fc_spec.specs.requests.DomainSets.{bucket_set}
use Rattle.fc_spec.specs.requests.Request.{Kind, query}
use Rattle.fc_partial.specs.Tallied.{Tallied}
use Rattle.fc_facet.specs.declared.kind.Kind as code
use Rattle.fc_facet.specs.declared.kind.Kind.TheVariants as kinds
use Rattle.fc_query.specs.QueryView.{query_view}
use Rattle.fc_request.specs.FacetNode.{kind_view}
use Rattle.fc_kind.specs.declared.name.KindName.TheVariants as names
use Rattle.fc_kind.specs.Names.{name_of}
use Rattle.fc_kind.specs.Collecting.{Collects, GrowsBy}
use Rattle.fc_kind.proofs.CollectedParts.{among_same, one_bucket}

-- sets that are joined in the other order
zip_with-turned : (a b : List Bool) → zip_with ◌&&◌ a b ≡ zip_with ◌&&◌ b a
zip_with-turned [] [] = refl
zip_with-turned [] (y ∷ b) = refl
zip_with-turned (x ∷ a) [] = refl
zip_with-turned (x ∷ a) (y ∷ b) = λ i. and_comm x y i ∷ zip_with-turned a b i

-- those that match, of a set
pub whole_set : (q : Query) (k : Key) (blocks : List Block) (set : List Bool) → is_whole k ≡ true → zip_with ◌&&◌ (map (matches q) (documents_in blocks)) set ≡ bucket_set (query q) k blocks set
whole_set q k blocks set e = zip_with-turned (map (matches q) (documents_in blocks)) set ∙ ap (λ b. zip_with ◌&&◌ set (map (λ d. b && matches q d) (documents_in blocks))) (sym e)

-- it has no other key
is_the_whole : (k : Key) → is_whole k ≡ same_key k whole
is_the_whole (value v) = refl
is_the_whole missing = refl
is_the_whole (gap i) = refl
is_the_whole before = refl
is_the_whole between = refl
is_the_whole after = refl
is_the_whole whole = refl

-- what its one bucket gets is what is collected
pub whole_alone : (kind : Kind) (q : Query) → kind ≡ query q → (Y : List Place) (old new : Tallied) → GrowsBy whole (bucket_places kind whole Y) old new → Collects kind old.stats Y old new
whole_alone kind q is Y old new grows =
    subst (λ (k : Kind). Collects k old.stats Y old new) (sym is)
    (among_same (λ k. same_key k whole) is_whole (query q) old.stats Y old new is_the_whole (one_bucket (query q) whole Y old new (subst (λ (k : Kind). GrowsBy whole (bucket_places k whole Y) old new) is grows)))

-- what a node of the kind is
pub query_of : (k : code.Kind) → name_of k ≡ Some names.Query → (q : Query) × (kind_view k ≡ query q)
query_of (kinds.Terms t) e = cc
query_of (kinds.Range g) e = cc
query_of (kinds.Query q) e = (query_view q, refl)
query_of (kinds.DateRange g) e = cc
query_of (kinds.Stat s) e = cc

pub whole_key : (k : code.Kind) → name_of k ≡ Some names.Query → is_key_of (kind_view k) whole ≡ true
whole_key k e = let q = query_of k e in ap (λ l. is_key_of l whole) q.1
