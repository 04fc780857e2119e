-- Documents cut into blocks, each block behind its parent.
use Rattle.std.specs.Prelude.{List, [], ◌∷◌, ◌++◌, Bool, true, false}
use Rattle.fc_spec.specs.documents.Document.{Document, Block}

-- the blocks of documents, where it is known which of them are parents and which children came before
abbrev pub cut_behind : List Document → List Bool → List Document → List Block
cut_behind children [] documents = []
cut_behind children (mark ∷ marks) [] = []
cut_behind children (true ∷ marks) (d ∷ documents) = record { children = children; parent = d } ∷ cut_behind [] marks documents
cut_behind children (false ∷ marks) (d ∷ documents) = cut_behind (children ++ d ∷ []) marks documents

abbrev pub cut : List Bool → List Document → List Block
cut marks documents = cut_behind [] marks documents

-- whether the last position is a parent's; the first argument is the answer where there is none
abbrev pub ends_with_parent : Bool → List Bool → Bool
ends_with_parent answer [] = answer
ends_with_parent answer (mark ∷ marks) = ends_with_parent mark marks
