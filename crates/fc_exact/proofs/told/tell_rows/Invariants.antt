use Rattle.std.proofs.Common.{◌≡◌, ◌++◌, ◌+◌, map, length}
use Rattle.fc_spec.specs.messages.TopRounds.{told_rows}
use Rattle.fc_partial.specs.BucketView.{rows_view}
use Rattle.fc_exact.specs.View.{told_view}
use Rattle.fc_exact.proofs.told.tell_rows.Given as goal

abbrev pub invariant-loop-node : goal.invariant-loop-node
invariant-loop-node l = record {
  told : map told_view l.told.items ++ told_rows l.number l.shard (rows_view l.node-iterator.rest.items) ≡ map told_view l.fn.told.items ++ told_rows 0 l.shard (rows_view l.fn.nodes.items);
  few : l.number + length l.node-iterator.rest.items ≡ length l.fn.nodes.items;
}
