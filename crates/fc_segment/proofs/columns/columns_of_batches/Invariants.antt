use Rattle.std.proofs.Common.{◌≡◌, ◌++◌, map, All}
use Rattle.fc_spec.specs.documents.Operations.{blocks_added}
use Rattle.fc_spec.specs.documents.Schema.{texts_held}
use Rattle.fc_spec.specs.documents.Totals.{documents_in}
use Rattle.fc_spec.specs.words.Lists.{joined}
use Rattle.fc_docs.specs.View.{batch_view}
use Rattle.fc_segment.specs.Building.{FitsTexts}
use Rattle.fc_segment.proofs.columns.columns_of_batches.Given as goal

-- with those that are left they are all documents
abbrev pub invariant-loop-batch : goal.invariant-loop-batch
invariant-loop-batch l = record {
  texts : l.columns.texts ≡ texts_held l.schema.fields;
  documents : l.columns.documents ++ documents_in (blocks_added (joined (map batch_view l.batch-iterator.rest.items)))
      ≡ documents_in (blocks_added (joined (map batch_view l.fn.batches.items)));
  fit : All (FitsTexts (texts_held l.schema.fields)) (documents_in (blocks_added (joined (map batch_view l.batch-iterator.rest.items))));
}
