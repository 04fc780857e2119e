use Rattle.std.proofs.Common.{length}
use Rattle.fc_docs.specs.Direct.{given_view}
use Rattle.fc_docs.specs.DirectState.{ReadTo}
use Rattle.fc_docs.proofs.direct.fields.read_fields.Given as goal

abbrev pub invariant-members : goal.invariant-members
invariant-members l = ReadTo l.schema l.fn.reader l.reader (given_view l.fn.given.items) (given_view l.given.items) l.fn.seen l.seen

abbrev pub decreases-members : goal.decreases-members
decreases-members l = length l.reader
