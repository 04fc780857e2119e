use Rattle.std.proofs.Common.{arith}
use Rattle.fc_docset.proofs.WordNeighbours.{none_from, lowest_from}
use Rattle.fc_docset.proofs.neighbours.lowest_from.Goals as goal

pub returns-then-left-eq0 : goal.returns-then-left-eq0
returns-then-left-eq0 c = none_from c.args.word c.args.from (omega arith) c.requires c.if-left-eq0.true

pub returns-else-left-eq0 : goal.returns-else-left-eq0
returns-else-left-eq0 c = lowest_from c.args.word c.args.from c.requires (omega arith) (omega arith)
