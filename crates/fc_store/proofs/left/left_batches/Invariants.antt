use Rattle.std.proofs.Common.{◌≡◌, ◌+◌, ◌++◌, drop, length, map}
use Rattle.fc_spec.specs.documents.Live.{live_in}
use Rattle.fc_spec.specs.documents.Operations.{blocks_added}
use Rattle.fc_spec.specs.documents.Totals.{document_total}
use Rattle.fc_spec.specs.words.Lists.{joined}
use Rattle.fc_docs.specs.View.{batch_view}
use Rattle.fc_store.proofs.left.left_batches.Given as goal

-- what the batches that are left add begins at the position; with what is kept of it they are what is kept of all
abbrev pub invariant-loop-batch : goal.invariant-loop-batch
invariant-loop-batch l = record {
  at : l.at + document_total (blocks_added (joined (map batch_view l.batch-iterator.rest.items))) ≡ length l.left;
  kept : blocks_added (joined (map batch_view l.made.items)) ++ live_in (blocks_added (joined (map batch_view l.batch-iterator.rest.items))) (drop l.at l.left)
      ≡ live_in (blocks_added (joined (map batch_view l.fn.batches.items))) l.left;
}
