-- The segments that a shard answers from.
use Rattle.std.specs.Prelude.{List, [], ◌∷◌, Bool, map}
use Rattle.fc_segment.specs.Segmented.{Segmented}
use Rattle.fc_answers.specs.SetAnswer.{Piece, Pieces, Sets}

-- a segment's blocks, and which of their documents are live
abbrev pub piece_of : Segmented → Piece
piece_of g = record { blocks = g.blocks; live = g.live }

-- of each
abbrev pub pieces_in : List Segmented → Pieces
pieces_in segments = map piece_of segments

-- one without a block
abbrev pub no_piece : Piece
no_piece = record { blocks = []; live = [] }

-- a set for each segment, made of its own set
abbrev pub each_piece : (Piece → List Bool → List Bool) → Pieces → Sets → Sets
each_piece f [] sets = []
each_piece f (p ∷ V) [] = []
each_piece f (p ∷ V) (set ∷ sets) = f p set ∷ each_piece f V sets
