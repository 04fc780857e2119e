use Rattle.std.proofs.Common.{ap}
use Rattle.fc_docs.specs.Direct.{given_view}
use Rattle.fc_docs.proofs.ChildrenRead.{child_told, child_within}
use Rattle.fc_docs.proofs.direct.block.read_child.Goals as goal

pub document_given-requires : goal.document_given-requires
document_given-requires c =
    let stops = rw c.in-End.is at c.in_ok-read_fields.ensures in
    child_within c.args.schema.now c.next.new.self c.read_fields.new.reader (given_view c.in_ok-given.given.items) (given_view c.read_fields.new.given.items) c.read_fields.new.seen (ap given_view c.in_ok-given.ensures.items) stops
    c.fields.result c.fields.ensures.count

pub returns-in-End-clause-child : goal.returns-in-End-clause-child
returns-in-End-clause-child c =
    let stops = rw c.in-End.is at c.in_ok-read_fields.ensures in
    child_told c.args.schema.now c.next.new.self c.read_fields.new.reader (given_view c.in_ok-given.given.items) (given_view c.read_fields.new.given.items) c.read_fields.new.seen (ap given_view c.in_ok-given.ensures.items) stops
    c.args.reader.now c.fields.result c.document_given.result c.requires (rw c.in-Some-BeginObject.field-0-is at c.in-Some-BeginObject.ensures.value) c.fields.ensures.count c.document_given.ensures.document c.document_given.ensures.id
