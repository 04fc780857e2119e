-- What the types of this crate stand for in the definitions.
use Rattle.std.specs.Prelude.{List, Vec, map}
use Rattle.std.specs.declared.alloc.Global.{Global}
use Rattle.fc_spec.specs.documents.BlockReading as reading
use Rattle.fc_spec.specs.documents.Val as value
use Rattle.fc_base.specs.declared.value.Val.{Val}
use Rattle.fc_base.specs.View.{val_view}
use Rattle.fc_spec.specs.documents.Document as definition
use Rattle.fc_spec.specs.documents.DocFault as fault
use Rattle.fc_docs.specs.declared.block.Block.{Block}
use Rattle.fc_docs.specs.declared.block.Op.{Op}
use Rattle.fc_docs.specs.declared.block.Op.TheVariants as op
use Rattle.fc_docs.specs.declared.block.Batch.{Batch}
use Rattle.fc_docs.specs.declared.fault.DocFault.{DocFault}
use Rattle.fc_docs.specs.declared.fault.DocFault.TheVariants as kind
use Rattle.fc_docs.specs.declared.read.member.Role.{Role}
use Rattle.fc_docs.specs.declared.read.member.Role.TheVariants as role

abbrev pub block_view : Block → definition.Block
block_view b = record { children = b.children.items; parent = b.parent }

abbrev pub op_view : Op → definition.Op
op_view (op.Add block) = definition.adding (block_view block)
op_view (op.Delete id) = definition.deleting id

abbrev pub batch_view : Batch → definition.Batch
batch_view b = map op_view b.ops.items

abbrev pub fault_view : DocFault → fault.DocFault
fault_view kind.UnknownField = fault.unknown_field
fault_view kind.WrongType = fault.wrong_type
fault_view kind.TooManyValues = fault.too_many_values
fault_view kind.NoId = fault.no_id
fault_view kind.LongTerm = fault.long_term
fault_view kind.DeepChildren = fault.deep_children

abbrev pub role_view : Role → reading.Role
role_view role.Parent = reading.as_parent
role_view role.Child = reading.as_child

abbrev pub values_view : Vec Val Global → List value.Val
values_view values = map val_view values.items
