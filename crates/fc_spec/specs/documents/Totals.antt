-- The documents of blocks, and how many values they have.
use Rattle.std.specs.Prelude.{ℕ, List, [], ◌∷◌, ◌++◌, length, sum_by}
use Rattle.std.specs.List.{flat_map}
use Rattle.fc_spec.specs.documents.Document.{Document, Block}

-- a block's children, then its parent
abbrev pub documents_of : Block → List Document
documents_of b = b.children ++ b.parent ∷ []

-- the documents of blocks, block after block
abbrev pub documents_in : List Block → List Document
documents_in blocks = flat_map documents_of blocks

-- the number of documents in blocks
abbrev pub document_total : List Block → ℕ
document_total blocks = length (documents_in blocks)

-- the number of values in the fields of documents
abbrev pub value_count : List Document → ℕ
value_count ds = sum_by (λ d. sum_by (λ vs. length vs) d) ds

-- and in those of blocks
abbrev pub value_total : List Block → ℕ
value_total blocks = value_count (documents_in blocks)
