-- The faults of a block, and the details that name them.
use Rattle.std.specs.Prelude.{codes}
use Rattle.fc_spec.specs.documents.Val.{Text}

-- a fault of a block
pub data DocFault : Type 0 where
  unknown_field : DocFault
  wrong_type : DocFault
  too_many_values : DocFault
  no_id : DocFault
  long_term : DocFault
  deep_children : DocFault

-- how a fault line names it
abbrev pub detail_of : DocFault → Text
detail_of unknown_field = codes "unknown-field"
detail_of wrong_type = codes "wrong-type"
detail_of too_many_values = codes "too-many-values"
detail_of no_id = codes "no-id"
detail_of long_term = codes "long-term"
detail_of deep_children = codes "deep-children"
