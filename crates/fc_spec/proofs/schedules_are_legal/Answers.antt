use Rattle.fc_spec.proofs.scripts.LegalPins.{pins_are_legal, runs_are_legal, phases_go_on}
use Rattle.fc_spec.proofs.schedules_are_legal.Goals as goal

pub returns-clause-pins : goal.returns-clause-pins
returns-clause-pins c = pins_are_legal

pub returns-clause-runs : goal.returns-clause-runs
returns-clause-runs c = runs_are_legal

pub returns-clause-phases : goal.returns-clause-phases
returns-clause-phases c = phases_go_on
