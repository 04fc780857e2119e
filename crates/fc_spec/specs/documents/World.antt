-- Worlds and places. Guide: SolrCloud Shards and Indexing.
use Rattle.std.specs.Prelude.{ℕ, ◌+◌, List, [], ◌∷◌, ◌++◌, length, Bool, true, false, ◌&&◌, ◌==◌}
use Rattle.std.specs.List.{list_any, filter}
use Rattle.fc_spec.specs.documents.Document.{Document, Block}
use Rattle.fc_spec.specs.words.Lists.{joined}

-- one list of blocks per shard
abbrev pub World : Type 0
World = List (List Block)

-- a shard and a position in its documents, with the number of the block there, whether the document is its parent, and the document
pub record Place : Type 0 where
  pub shard : ℕ
  pub position : ℕ
  pub block : ℕ
  pub parent : Bool
  pub document : Document

-- the places of a block that begins at the position p: its children, then their parent
abbrev pub block_places : (shard block position : ℕ) → List Document → Document → List Place
block_places s b p [] parent = record { shard = s; position = p; block = b; parent = true; document = parent } ∷ []
block_places s b p (d ∷ ds) parent = record { shard = s; position = p; block = b; parent = false; document = d } ∷ block_places s b (p + 1) ds parent

-- the places of a list of blocks of a shard, of which the first has the number b and begins at the position p
abbrev pub shard_places : (shard block position : ℕ) → List Block → List Place
shard_places s b p [] = []
shard_places s b p (x ∷ xs) = block_places s b p x.children x.parent ++ shard_places s (b + 1) (p + length x.children + 1) xs

-- the places of a list of shards, of which the first has the number s
abbrev pub places_from : ℕ → World → List Place
places_from s [] = []
places_from s (blocks ∷ rest) = shard_places s 0 0 blocks ++ places_from (s + 1) rest

-- all places of a world
abbrev pub places : World → List Place
places W = places_from 0 W

-- the two places are of one block
abbrev pub same_block : Place → Place → Bool
same_block p q = (p.shard == q.shard) && (p.block == q.block)

-- the places of X on some shards, each named once
abbrev pub on_shards : List ℕ → List Place → List Place
on_shards shards X = filter (λ p. list_any (λ i. i == p.shard) shards) X

-- the same documents on one shard, in the order of the shards
abbrev pub single : World → World
single W = joined W ∷ []
