use Rattle.std.proofs.Common.{◌≡◌, All, IsTrue}
use Rattle.serde_json.specs.View.{items_view}
use Rattle.fc_spec.specs.words.Walks.{each}
use Rattle.fc_spec.specs.documents.BlockReading.{value_of, without_nulls}
use Rattle.fc_spec.specs.documents.ValidBlocks.{is_value_of}
use Rattle.fc_base.specs.View.{field_type_view, val_view}
use Rattle.fc_docs.specs.View.{values_view}
use Rattle.fc_docs.proofs.Items.{behind}
use Rattle.fc_docs.proofs.read.values.read_items.Given as goal

abbrev pub invariant-loop-item : goal.invariant-loop-item
invariant-loop-item l =
    let step = value_of (field_type_view l.kind) in
    record { read : each step (without_nulls (items_view l.fn.items.items)) ≡ behind (values_view l.values) (each step (without_nulls (items_view l.item-iterator.rest.items))); valid : All (λ val. IsTrue (is_value_of (field_type_view l.kind) (val_view val))) l.values.items }
