use Rattle.std.proofs.Common.{◌≡◌, All}
use Rattle.serde_json.specs.View.{items_view}
use Rattle.fc_spec.specs.words.Walks.{each}
use Rattle.fc_spec.specs.documents.BlockReading.{all_items, as_child, document_of}
use Rattle.fc_spec.specs.documents.ValidBlocks.{IsDocumentOf}
use Rattle.fc_docs.proofs.Items.{behind}
use Rattle.fc_docs.proofs.read.read_each.Given as goal

abbrev pub invariant-loop-item : goal.invariant-loop-item
invariant-loop-item l =
    let step = document_of as_child l.schema in
    record { read : each step (all_items (items_view l.fn.items.items)) ≡ behind l.documents.items (each step (all_items (items_view l.item-iterator.rest.items))); valid : All (IsDocumentOf l.schema) l.documents.items }
