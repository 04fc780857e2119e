-- Blocks of which some are left, as a set of positions that has each block whole or not at all.
use Rattle.std.specs.Prelude.{◌≡◌, List, [], ◌∷◌, ◌++◌, length, drop, map, replicate, slice_index_or, Bool, false, not, ◌&&◌}
use Rattle.std.specs.List.{items_where_true}
use Rattle.fc_spec.specs.documents.Document.{Block, Op, adding, deleting}
use Rattle.fc_spec.specs.documents.Operations.{is_named, blocks_added}
use Rattle.fc_spec.specs.documents.Sets.{zip_with, each_set}
use Rattle.fc_spec.specs.documents.Totals.{documents_of}
use Rattle.fc_spec.specs.documents.World.{World}

-- for each block whether its parent is in the set
abbrev pub parents_in_set : List Block → List Bool → List Bool
parents_in_set [] set = []
parents_in_set (b ∷ blocks) set = slice_index_or set (length b.children) false ∷ parents_in_set blocks (drop (length (documents_of b)) set)

-- the positions of the blocks for which that is true
abbrev pub whole_blocks : List Block → List Bool → List Bool
whole_blocks [] kept = []
whole_blocks (b ∷ blocks) [] = []
whole_blocks (b ∷ blocks) (here ∷ kept) = replicate (length (documents_of b)) here ++ whole_blocks blocks kept

-- the set has each block whole or not at all
pub record HasWholeBlocks (blocks : List Block) (set : List Bool) : Type 0 where
  pub whole : set ≡ whole_blocks blocks (parents_in_set blocks set)

-- the blocks in the set
abbrev pub live_in : List Block → List Bool → List Block
live_in blocks set = items_where_true (parents_in_set blocks set) blocks

-- of several lists of blocks, each with its set, one behind the other
abbrev pub live_in_all : World → List (List Bool) → List Block
live_in_all [] sets = []
live_in_all (blocks ∷ V) [] = []
live_in_all (blocks ∷ V) (set ∷ sets) = live_in blocks set ++ live_in_all V sets

-- a set for each list of blocks, with whole blocks
abbrev pub HaveWholeBlocks : World → List (List Bool) → Type 0
HaveWholeBlocks [] [] = Unit {0}
HaveWholeBlocks [] (set ∷ sets) = ⊥
HaveWholeBlocks (blocks ∷ V) [] = ⊥
HaveWholeBlocks (blocks ∷ V) (set ∷ sets) = HasWholeBlocks blocks set × HaveWholeBlocks V sets

-- ---- operations on blocks with a set

-- the positions of the blocks that pass a test
abbrev pub blocks_where : (Block → Bool) → List Block → List Bool
blocks_where test blocks = whole_blocks blocks (map test blocks)

-- those of a set whose blocks do not pass it
abbrev pub set_without : (Block → Bool) → List Block → List Bool → List Bool
set_without test blocks set = zip_with (λ here there. here && not there) set (blocks_where test blocks)

-- for each block that operations add whether none behind it names it
abbrev pub left_bits : List Op → List Bool
left_bits [] = []
left_bits (adding b ∷ ops) = not (is_named ops b) ∷ left_bits ops
left_bits (deleting x ∷ ops) = left_bits ops

-- the positions of those
abbrev pub left_set : List Op → List Bool
left_set ops = whole_blocks (blocks_added ops) (left_bits ops)

-- the sets after operations: earlier blocks that one of them names go out, and behind them stands the set of what they add
abbrev pub sets_after : World → List (List Bool) → List Op → List (List Bool)
sets_after V sets ops = each_set (set_without (is_named ops)) V sets ++ left_set ops ∷ []
