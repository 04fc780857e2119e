use Rattle.fc_spec.proofs.scripts.LegalEnds.{ends_are_outputs}
use Rattle.fc_spec.proofs.scripts.PhaseSearches.{stand_by_phase}
use Rattle.fc_spec.proofs.phase_ends_are_outputs.Goals as goal

pub returns-clause-by_phase : goal.returns-clause-by_phase
returns-clause-by_phase c = stand_by_phase

pub returns-clause-ends : goal.returns-clause-ends
returns-clause-ends c = ends_are_outputs
