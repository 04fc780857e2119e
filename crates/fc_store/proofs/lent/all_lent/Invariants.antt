use Rattle.std.proofs.Common.{◌≡◌, map, take}
use Rattle.fc_spec.specs.words.Lists.{joined}
use Rattle.fc_docs.specs.View.{batch_view}
use Rattle.fc_store.specs.Named.{ops_of}
use Rattle.fc_store.proofs.lent.all_lent.Given as goal

abbrev pub invariant-loop-batch : goal.invariant-loop-batch
invariant-loop-batch l = ops_of l.lent.items ≡ joined (map batch_view (take l.batch-index l.batches))
