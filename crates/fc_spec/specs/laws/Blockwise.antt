-- The base, a domain change and the places of a bucket are made block by block: list of blocks by list of blocks, one behind the other where lists are joined, and on one shard from that shard's blocks.
use Rattle.std.specs.Prelude.{◌≡◌, ℕ, List, [], ◌∷◌, length, map, Bool, Some, slice_get}
use Rattle.std.specs.List.{items_where_true}
use Rattle.fc_spec.specs.words.Lists.{joined}
use Rattle.fc_spec.specs.documents.Val.{Text}
use Rattle.fc_spec.specs.documents.Document.{Block}
use Rattle.fc_spec.specs.documents.World.{World, Place, on_shards}
use Rattle.fc_spec.specs.documents.Totals.{documents_in, document_total}
use Rattle.fc_spec.specs.documents.Sets.{AreSets, places_at, places_on, each_set, each_two}
use Rattle.fc_spec.specs.requests.Request.{Request, DomainChange, Kind}
use Rattle.fc_spec.specs.requests.Base.{base}
use Rattle.fc_spec.specs.requests.Domain.{changed}
use Rattle.fc_spec.specs.requests.Buckets.{Key, bucket_places}
use Rattle.fc_spec.specs.requests.DomainSets.{base_set, rebuilt_set, changed_set, bucket_set}
use Rattle.fc_spec.specs.requests.Paths.{Path, rebuilt}

-- over a world: a set for each list of blocks, made from that list and its own sets
abbrev pub BasesAreBlockwise : Type 0
BasesAreBlockwise = (r : Request) (tags : List Text) (V : World) → base r V tags ≡ places_at V (map (base_set r tags) V)

abbrev pub RebuiltAreBlockwise : Type 0
RebuiltAreBlockwise = (r : Request) (path : Path) (tags : List Text) (V : World) → rebuilt r V path tags ≡ places_at V (map (rebuilt_set r path tags) V)

abbrev pub ChangesAreBlockwise : Type 0
ChangesAreBlockwise = (change : DomainChange) (V : World) (bases sets : List (List Bool)) → AreSets V bases → AreSets V sets
    → changed V (places_at V bases) change (places_at V sets) ≡ places_at V (each_two (changed_set change) V bases sets)

abbrev pub BucketsAreBlockwise : Type 0
BucketsAreBlockwise = (kind : Kind) (key : Key) (V : World) (sets : List (List Bool)) → AreSets V sets
    → bucket_places kind key (places_at V sets) ≡ places_at V (each_set (bucket_set kind key) V sets)

-- what is made of sets are sets again
pub record KeepLengths : Type 0 where
  pub base : (r : Request) (tags : List Text) (blocks : List Block) → length (base_set r tags blocks) ≡ document_total blocks
  pub rebuilt : (r : Request) (path : Path) (tags : List Text) (blocks : List Block) → length (rebuilt_set r path tags blocks) ≡ document_total blocks
  pub change : (change : DomainChange) (blocks : List Block) (base set : List Bool) → length base ≡ document_total blocks → length set ≡ document_total blocks
      → length (changed_set change blocks base set) ≡ document_total blocks
  pub bucket : (kind : Kind) (key : Key) (blocks : List Block) (set : List Bool) → length set ≡ document_total blocks → length (bucket_set kind key blocks set) ≡ document_total blocks

pub record AreSetsAgain : Type 0 where
  pub bases : (r : Request) (tags : List Text) (V : World) → AreSets V (map (base_set r tags) V)
  pub rebuilt : (r : Request) (path : Path) (tags : List Text) (V : World) → AreSets V (map (rebuilt_set r path tags) V)
  pub changes : (change : DomainChange) (V : World) (bases sets : List (List Bool)) → AreSets V bases → AreSets V sets → AreSets V (each_two (changed_set change) V bases sets)
  pub buckets : (kind : Kind) (key : Key) (V : World) (sets : List (List Bool)) → AreSets V sets → AreSets V (each_set (bucket_set kind key) V sets)

-- of lists of blocks that are joined: the sets of the lists, one behind the other
abbrev pub BasesJoin : Type 0
BasesJoin = (r : Request) (tags : List Text) (V : World) → base_set r tags (joined V) ≡ joined (map (base_set r tags) V)

abbrev pub RebuiltJoin : Type 0
RebuiltJoin = (r : Request) (path : Path) (tags : List Text) (V : World) → rebuilt_set r path tags (joined V) ≡ joined (map (rebuilt_set r path tags) V)

abbrev pub ChangesJoin : Type 0
ChangesJoin = (change : DomainChange) (V : World) (bases sets : List (List Bool)) → AreSets V bases → AreSets V sets
    → changed_set change (joined V) (joined bases) (joined sets) ≡ joined (each_two (changed_set change) V bases sets)

abbrev pub BucketsJoin : Type 0
BucketsJoin = (kind : Kind) (key : Key) (V : World) (sets : List (List Bool)) → AreSets V sets
    → bucket_set kind key (joined V) (joined sets) ≡ joined (each_set (bucket_set kind key) V sets)

-- the places of the sets have the documents at the positions in the joined set
abbrev pub DocumentsJoin : Type 0
DocumentsJoin = (V : World) (sets : List (List Bool))
    → map (λ p. p.document) (places_at V sets) ≡ items_where_true (joined sets) (documents_in (joined V))

-- the places of X on shard s are those of a set
abbrev pub IsOnShard : (s : ℕ) → List Block → List Bool → List Place → Type 0
IsOnShard s blocks set X = on_shards (s ∷ []) X ≡ places_on s blocks set

-- on one shard of a world: from its blocks, and its part of the places
abbrev pub BasesOfShards : Type 0
BasesOfShards = (r : Request) (tags : List Text) (W : World) (s : ℕ) (blocks : List Block) → slice_get W s ≡ Some blocks
    → IsOnShard s blocks (base_set r tags blocks) (base r W tags)

abbrev pub RebuiltOfShards : Type 0
RebuiltOfShards = (r : Request) (path : Path) (tags : List Text) (W : World) (s : ℕ) (blocks : List Block) → slice_get W s ≡ Some blocks
    → IsOnShard s blocks (rebuilt_set r path tags blocks) (rebuilt r W path tags)

abbrev pub ChangesOfShards : Type 0
ChangesOfShards = (change : DomainChange) (W : World) (s : ℕ) (blocks : List Block) → slice_get W s ≡ Some blocks
    → (B X : List Place) (base set : List Bool) → length base ≡ document_total blocks → length set ≡ document_total blocks
    → IsOnShard s blocks base B → IsOnShard s blocks set X → IsOnShard s blocks (changed_set change blocks base set) (changed W B change X)

abbrev pub BucketsOfShards : Type 0
BucketsOfShards = (kind : Kind) (key : Key) (s : ℕ) (blocks : List Block) (X : List Place) (set : List Bool)
    → IsOnShard s blocks set X → IsOnShard s blocks (bucket_set kind key blocks set) (bucket_places kind key X)

-- the places on a shard have the documents at the positions in the set
abbrev pub DocumentsOfShards : Type 0
DocumentsOfShards = (s : ℕ) (blocks : List Block) (set : List Bool) → map (λ p. p.document) (places_on s blocks set) ≡ items_where_true set (documents_in blocks)
