-- What operations leave of the blocks of a shard. Guide: Indexing with Update Handlers, "Delete Operations"; Field Types and Schema Design, "Unique Key".
use Rattle.std.specs.Prelude.{List, [], ◌∷◌, ◌++◌, Bool, not, fold, Option, None, Some, slice_index_or, if◌then◌else◌}
use Rattle.std.specs.List.{filter, filter_map, list_any}
use Rattle.fc_spec.specs.documents.Val.{Text, text, has_val}
use Rattle.fc_spec.specs.documents.Columns.{texts_in}
use Rattle.fc_spec.specs.documents.Document.{values_of, Block, Op, adding, deleting}

-- the id of a block is that of its parent, the text in field 0
abbrev pub id_of : Block → Text
id_of b = slice_index_or (texts_in (values_of b.parent 0)) 0 []

-- whether a block has an id; that of a child does not count
abbrev pub has_id : Text → Block → Bool
has_id x b = has_val (text x) (values_of b.parent 0)

-- the blocks without those that have an id
abbrev pub without_blocks_of : Text → List Block → List Block
without_blocks_of x blocks = filter (λ b. not (has_id x b)) blocks

-- what an operation leaves of blocks: none with its id, and behind the others the block that it adds
abbrev pub after_op : List Block → Op → List Block
after_op blocks (adding b) = without_blocks_of (id_of b) blocks ++ b ∷ []
after_op blocks (deleting x) = without_blocks_of x blocks

-- what operations leave, in their order
abbrev pub after_ops : List Block → List Op → List Block
after_ops blocks ops = fold after_op blocks ops

-- the block that an operation adds
abbrev pub added_by : Op → Option Block
added_by (adding b) = Some b
added_by (deleting x) = None

-- the blocks that operations add, in order, whether they are left or not
abbrev pub blocks_added : List Op → List Block
blocks_added ops = filter_map added_by ops

-- ---- the same without an order for the blocks before them

-- the id that an operation names
abbrev pub op_id : Op → Text
op_id (adding b) = id_of b
op_id (deleting x) = x

-- whether one of the operations names the id of a block
abbrev pub is_named : List Op → Block → Bool
is_named ops b = list_any (λ op. has_id (op_id op) b) ops

-- the blocks that operations add and that none behind them names
abbrev pub left_of : List Op → List Block
left_of [] = []
left_of (adding b ∷ ops) = if is_named ops b then left_of ops else b ∷ left_of ops
left_of (deleting x ∷ ops) = left_of ops
