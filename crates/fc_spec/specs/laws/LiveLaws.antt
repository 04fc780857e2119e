-- What operations leave is found list of blocks by list of blocks, whatever the order of the operations on earlier blocks.
use Rattle.std.specs.Prelude.{◌≡◌, List, [], ◌∷◌, ◌++◌, Bool}
use Rattle.std.specs.List.{items_where_true}
use Rattle.fc_spec.specs.documents.Document.{Block, Op}
use Rattle.fc_spec.specs.documents.World.{World}
use Rattle.fc_spec.specs.documents.Operations.{after_ops, blocks_added}
use Rattle.fc_spec.specs.documents.Totals.{documents_in}
use Rattle.fc_spec.specs.documents.Live.{live_in, live_in_all, HasWholeBlocks, HaveWholeBlocks, sets_after}

-- after operations the live blocks are those of the same lists and of the blocks that are added
pub record GoByLists (V : World) (sets : List (List Bool)) (ops : List Op) : Type 0 where
  pub whole : HaveWholeBlocks (V ++ blocks_added ops ∷ []) (sets_after V sets ops)
  pub blocks : live_in_all (V ++ blocks_added ops ∷ []) (sets_after V sets ops) ≡ after_ops (live_in_all V sets) ops

abbrev pub OperationsGoByLists : Type 0
OperationsGoByLists = (V : World) (sets : List (List Bool)) (ops : List Op) → HaveWholeBlocks V sets → GoByLists V sets ops

-- the documents of the live blocks are those at the positions of the set
abbrev pub LiveAreAtPositions : Type 0
LiveAreAtPositions = (blocks : List Block) (set : List Bool) → HasWholeBlocks blocks set → documents_in (live_in blocks set) ≡ items_where_true set (documents_in blocks)
