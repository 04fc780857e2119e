-- The places of a bucket in a segment.
use Rattle.std.proofs.Common.{◌≡◌, List, map, length, Bool, ◌&&◌, sym, ap, ◌∙◌, refl, ◌∷◌, [], suc, arith}
use Rattle.std.specs.List.{items_where_true}
use Rattle.fc_spec.specs.documents.Document.{Block}
use Rattle.fc_spec.specs.documents.Sets.{places_on, zip_with}
use Rattle.fc_spec.specs.documents.World.{Place, shard_places}
use Rattle.fc_spec.specs.requests.Buckets.{Key, bucket_places, in_bucket}
use Rattle.fc_spec.specs.requests.DomainSets.{bucket_set}
use Rattle.fc_spec.specs.requests.Request.{Kind}
use Rattle.fc_spec.proofs.documents.PlacedDocuments.{documents_at-shard}
use Rattle.fc_spec.proofs.words.WhereTrue.{filter-items_where_true}

map-map : {X Y Z : Type 0} (f : Y → Z) (g : X → Y) (xs : List X) → map f (map g xs) ≡ map (λ x. f (g x)) xs
map-map f g [] = refl
map-map f g (x ∷ xs) = ap (λ l. f (g x) ∷ l) (map-map f g xs)

-- those at the positions that the bucket leaves
pub bucket_picked : (kind : Kind) (k : Key) (blocks : List Block) (set : List Bool) → bucket_places kind k (places_on 0 blocks set) ≡ places_on 0 blocks (bucket_set kind k blocks set)
bucket_picked kind k blocks set =
    filter-items_where_true (λ (p : Place). in_bucket kind k p.document) set (shard_places 0 0 0 blocks)
    ∙ ap (λ l. items_where_true (zip_with ◌&&◌ set l) (shard_places 0 0 0 blocks))
    (sym (map-map (in_bucket kind k) (λ (p : Place). p.document) (shard_places 0 0 0 blocks)) ∙ ap (map (in_bucket kind k)) (documents_at-shard 0 0 0 blocks))

-- sets of one length are joined to one of that length
pub length-zip_with : (join : Bool → Bool → Bool) (a b : List Bool) → length a ≡ length b → length (zip_with join a b) ≡ length a
length-zip_with join [] b e = refl
length-zip_with join (x ∷ a) [] e = absurd (omega arith)
length-zip_with join (x ∷ a) (y ∷ b) e = ap suc (length-zip_with join a b (omega arith))
