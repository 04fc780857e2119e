use Rattle.std.proofs.Common.{◌≡◌, ◌++◌, map, take}
use Rattle.fc_docs.specs.View.{op_view}
use Rattle.fc_store.specs.Named.{ops_of}
use Rattle.fc_store.proofs.lent.with_each.Given as goal

abbrev pub invariant-loop-op : goal.invariant-loop-op
invariant-loop-op l = ops_of l.all.items ≡ ops_of l.fn.lent.items ++ map op_view (take l.op-index l.ops)
