use Rattle.std.proofs.Common.{arith}
use Rattle.fc_docset.proofs.WordNeighbours.{none_up_to, highest_up_to}
use Rattle.fc_docset.proofs.neighbours.highest_up_to.Goals as goal

pub returns-then-left-eq0 : goal.returns-then-left-eq0
returns-then-left-eq0 c = none_up_to c.args.word c.args.to c.requires c.if-left-eq0.true

pub returns-else-left-eq0 : goal.returns-else-left-eq0
returns-else-left-eq0 c = highest_up_to c.args.word c.args.to c.requires (omega arith) (omega arith)
