-- Documents, blocks, operations and batches. Guide: Indexing Nested Child Documents; Indexing with Update Handlers.
use Rattle.std.specs.Prelude.{ℕ, List, []}
use Rattle.std.specs.List.{slice_index_or}
use Rattle.fc_spec.specs.documents.Val.{Text, Val}

-- for each field's number its values, different and in index order
abbrev pub Document : Type 0
Document = List (List Val)

-- the document's values in a field; none where it has none
abbrev pub values_of : Document → ℕ → List Val
values_of d field = slice_index_or d field []

-- child documents and the parent that follows them
pub record Block : Type 0 where
  pub children : List Document
  pub parent : Document

-- what a line does to a shard: it adds a block, or deletes the blocks of an id
pub data Op : Type 0 where
  adding : Block → Op
  deleting : Text → Op

-- the operations that one commit makes seen, in order
abbrev pub Batch : Type 0
Batch = List Op
