use Rattle.std.proofs.Common.{ap, sym}
use Rattle.fc_units.specs.Going.{known_already}
use Rattle.fc_units.proofs.going.known_before.Goals as goal

pub returns-in-Job : goal.returns-in-Job
returns-in-Job c = ap known_already (sym c.in-Job.is)

pub returns-in-Whole : goal.returns-in-Whole
returns-in-Whole c = ap known_already (sym c.in-Whole.is)
