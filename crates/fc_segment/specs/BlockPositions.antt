-- Positions in blocks, whose documents stand one block behind the other, each block's parent behind its children.
use Rattle.std.specs.Prelude.{ℕ, ◌+◌, ◌-◌, List, [], ◌∷◌, length, Bool, ◌&&◌, nat_le, nat_lt, if◌then◌else◌}
use Rattle.fc_spec.specs.documents.Document.{Block}
use Rattle.fc_spec.specs.documents.Totals.{documents_of}
use Rattle.fc_docset.specs.Positions.{contains}
use Rattle.fc_segment.specs.Parents.{parents_in}

-- the first position of the block in which a position stands
abbrev pub first_in_block : List Block → ℕ → ℕ
first_in_block [] at = 0
first_in_block (b ∷ blocks) at = let size = length (documents_of b) in if nat_lt at size then 0 else size + first_in_block blocks (at - size)

-- the position of its parent
abbrev pub parent_in_block : List Block → ℕ → ℕ
parent_in_block [] at = 0
parent_in_block (b ∷ blocks) at = let size = length (documents_of b) in if nat_lt at size then length b.children else size + parent_in_block blocks (at - size)

-- a parent stands at the first position, and the second is in its block
abbrev pub is_in_block_of : List Block → ℕ → ℕ → Bool
is_in_block_of blocks at k = contains (parents_in blocks) at && (nat_le (first_in_block blocks at) k && nat_lt k (at + 1))
