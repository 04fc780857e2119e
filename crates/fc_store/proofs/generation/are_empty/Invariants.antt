use Rattle.std.proofs.Common.{◌≡◌, map, drop}
use Rattle.fc_spec.specs.words.Lists.{joined}
use Rattle.fc_docs.specs.View.{batch_view}
use Rattle.fc_store.proofs.generation.are_empty.Given as goal

abbrev pub invariant-loop-batch : goal.invariant-loop-batch
invariant-loop-batch l = joined (map batch_view (drop l.batch-index l.batches)) ≡ joined (map batch_view l.batches)
