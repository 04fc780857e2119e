-- Which positions of blocks are parents: a list with a Bool for each position.
use Rattle.std.specs.Prelude.{List, [], ◌∷◌, ◌++◌, length, replicate, Bool, true, false}
use Rattle.std.specs.List.{flat_map}
use Rattle.fc_spec.specs.documents.Document.{Block}

-- a block's children, then its parent
abbrev pub marks_of : Block → List Bool
marks_of b = replicate (length b.children) false ++ true ∷ []

-- block after block
abbrev pub parents_in : List Block → List Bool
parents_in blocks = flat_map marks_of blocks
