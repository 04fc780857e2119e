use Rattle.fc_docs.specs.Direct.{given_view}
use Rattle.fc_docs.proofs.BlockRead.{alone, family_told}
use Rattle.fc_docs.proofs.direct.block.read_family.Goals as goal

pub returns-in-End-clause-family : goal.returns-in-End-clause-family
returns-in-End-clause-family c =
    let stops = rw c.in-End.is at c.in_ok-read_fields.ensures in
    rw c.new.ensures.items
    (alone c.args.schema.now c.args.reader.now c.read_fields.new.reader (given_view c.args.given.now.items) (given_view c.read_fields.new.given.items) c.args.seen.now c.read_fields.new.seen c.requires.start stops)

pub returns-in-Children-clause-family : goal.returns-in-Children-clause-family
returns-in-Children-clause-family c =
    let stops = rw c.in-Children.is at c.in_ok-read_fields.ensures in
    family_told c.args.schema.now c.args.reader.now c.read_fields.new.reader c.read_rest.new.reader (given_view c.args.given.now.items) (given_view c.read_fields.new.given.items) (given_view c.read_rest.new.given.items)
    c.args.seen.now c.read_fields.new.seen c.read_rest.new.seen c.read_rest.result c.requires.list c.requires.start stops c.read_rest.ensures
