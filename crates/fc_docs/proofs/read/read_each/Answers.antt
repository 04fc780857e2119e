use Rattle.std.proofs.Common.{◌≡◌, ◌∷◌, ◌++◌, [], ◌∙◌, ap}
use Rattle.std.proofs.lemmas.List.Elements.{All-push}
use Rattle.serde_json.specs.View.{view, items_view}
use Rattle.fc_spec.specs.words.Walks.{each}
use Rattle.fc_spec.specs.documents.BlockReading.{all_items, as_child, document_of}
use Rattle.fc_spec.specs.documents.ValidBlocks.{IsDocumentOf}
use Rattle.fc_docs.proofs.Items.{behind, one_more}
use Rattle.fc_docs.proofs.read.read_each.Goals as goal

pub loop-item-preserved : goal.loop-item-preserved
loop-item-preserved c =
    let step = document_of as_child c.args.schema.now in
    let done = c.loop-item.documents.items in
    let left = c.next.new.self.rest.items in
    let first : c.loop-item.item-iterator.rest.items ≡ c.in-Some.item ∷ left = c.in-Some.ensures.steps.0 in
    let pushed : c.push.new.self.items ≡ done ++ c.in_ok-read_child.field-0 ∷ [] = c.in_ok-push.ensures.items in
    rw pushed
    (record {
      read = c.loop-item.invariant.read ∙ ap (λ vs. behind done (each step (all_items (items_view vs)))) first ∙ one_more step done (view c.in-Some.item) (all_items (items_view left)) c.in_ok-read_child.field-0 c.in_ok-read_child.ensures.answer;
      valid = All-push (IsDocumentOf c.args.schema.now) done c.in_ok-read_child.field-0 c.loop-item.invariant.valid c.in_ok-read_child.ensures.valid;
    })
