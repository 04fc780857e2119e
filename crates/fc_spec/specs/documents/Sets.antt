-- Sets of positions in lists of blocks: each a list with a Bool for each document.
use Rattle.std.specs.Prelude.{◌≡◌, ℕ, List, [], ◌∷◌, map, length, Bool, ◌&&◌}
use Rattle.std.specs.List.{items_where_true}
use Rattle.fc_spec.specs.words.Lists.{joined}
use Rattle.fc_spec.specs.documents.Document.{Document, Block}
use Rattle.fc_spec.specs.documents.World.{World, Place, places, shard_places}
use Rattle.fc_spec.specs.documents.Totals.{documents_in, document_total}

-- what a test makes of two sets of one length, position by position
abbrev pub zip_with : (Bool → Bool → Bool) → List Bool → List Bool → List Bool
zip_with test [] others = []
zip_with test (here ∷ set) [] = []
zip_with test (here ∷ set) (there ∷ others) = test here there ∷ zip_with test set others

-- the positions whose document passes
abbrev pub passing : (Document → Bool) → List Block → List Bool
passing t blocks = map t (documents_in blocks)

-- those of a set whose document passes
abbrev pub passing_of : (Document → Bool) → List Block → List Bool → List Bool
passing_of t blocks set = zip_with ◌&&◌ set (passing t blocks)

-- the places on shard s, whose blocks these are, at the positions in the set
abbrev pub places_on : (shard : ℕ) → List Block → List Bool → List Place
places_on s blocks set = items_where_true set (shard_places s 0 0 blocks)

-- a set for each list of blocks, with a Bool for each of its documents
abbrev pub AreSets : World → List (List Bool) → Type 0
AreSets V sets = map length sets ≡ map document_total V

-- the places at the positions in the sets
abbrev pub places_at : World → List (List Bool) → List Place
places_at V sets = items_where_true (joined sets) (places V)

-- a set for each list of blocks, made of its own set
abbrev pub each_set : (List Block → List Bool → List Bool) → World → List (List Bool) → List (List Bool)
each_set f [] sets = []
each_set f (blocks ∷ V) [] = []
each_set f (blocks ∷ V) (set ∷ sets) = f blocks set ∷ each_set f V sets

-- a set for each list of blocks, made of its own two sets
abbrev pub each_two : (List Block → List Bool → List Bool → List Bool) → World → List (List Bool) → List (List Bool) → List (List Bool)
each_two f [] sets others = []
each_two f (blocks ∷ V) [] others = []
each_two f (blocks ∷ V) (set ∷ sets) [] = []
each_two f (blocks ∷ V) (set ∷ sets) (other ∷ others) = f blocks set other ∷ each_two f V sets others
