use Rattle.fc_docs.proofs.ChildrenRead.{array_told, no_children}
use Rattle.fc_docs.proofs.direct.block.read_children.Goals as goal

pub returns-in-Some-Null-clause-children : goal.returns-in-Some-Null-clause-children
returns-in-Some-Null-clause-children c = rw c.new.ensures.items (no_children c.args.schema.now c.args.reader.now c.next.new.self (rw c.in-Some-Null.field-0-is at c.in-Some-Null.ensures.value))

pub returns-in-Some-BeginArray-clause-children : goal.returns-in-Some-BeginArray-clause-children
returns-in-Some-BeginArray-clause-children c =
    array_told c.args.schema.now c.args.reader.now c.next.new.self c.read_each.new.reader c.read_each.result (rw c.in-Some-BeginArray.field-0-is at c.in-Some-BeginArray.ensures.value) c.read_each.ensures.each
