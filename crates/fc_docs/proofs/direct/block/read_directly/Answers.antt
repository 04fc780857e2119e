use Rattle.std.proofs.Common.{◌≡◌, ◌<◌, length, ap, ◌∙◌}
use Rattle.fc_spec.specs.documents.Document.{values_of}
use Rattle.fc_docs.specs.Direct.{document_given, given_view}
use Rattle.fc_docs.specs.DirectState.{GivesFamily}
use Rattle.fc_docs.proofs.BlockRead.{whole_block}
use Rattle.fc_docs.proofs.direct.block.read_directly.Goals as goal

pub returns-in-Some-2-clause-block : goal.returns-in-Some-2-clause-block
returns-in-Some-2-clause-block c =
    let s = c.args.schema.now in
    let after = given_view c.read_family.new.given.items in
    let family : GivesFamily s c.next.new.self c.read_family.new.reader after c.read_family.new.seen c.in-Some.children.items = rw c.in-Some.is at c.in_ok-children.ensures.family in
    let is : c.in-Some-2.parent ≡ document_given c.fields-fields.result after = rw c.in-Some-2.is at c.in_ok-parent.ensures.document in
    let some : 0 < length (values_of c.in-Some-2.parent 0) = rw c.in-Some-2.is at c.in_ok-parent.ensures.id in
    whole_block s c.args.reader.now c.next.new.self c.read_family.new.reader after c.read_family.new.seen c.in-Some.children.items c.in-Some-2.parent c.fields-fields.ensures.valid.list
    (rw c.in-Some-BeginObject.field-0-is at c.in-Some-BeginObject.ensures.value) family (is ∙ ap (λ n. document_given n after) c.fields-fields.ensures.count) some
