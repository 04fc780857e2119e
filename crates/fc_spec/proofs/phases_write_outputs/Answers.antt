use Rattle.fc_spec.proofs.scripts.WovenLines.{sessions_weave}
use Rattle.fc_spec.proofs.scripts.AddedPhases.{phases_add_up}
use Rattle.fc_spec.proofs.scripts.SentLines.{sent_ascends}
use Rattle.std.specs.Prelude.{[]}
use Rattle.fc_spec.specs.scripts.Phases.{searches}
use Rattle.fc_spec.proofs.scripts.BookedOutputs.{booked_lines}
use Rattle.fc_spec.proofs.phases_write_outputs.Goals as goal

pub returns-clause-sessions : goal.returns-clause-sessions
returns-clause-sessions c = sessions_weave

pub returns-clause-phases : goal.returns-clause-phases
returns-clause-phases c = phases_add_up

pub returns-clause-outputs : goal.returns-clause-outputs
returns-clause-outputs c = λ reply S t before after booked. booked_lines reply S [] 0 (searches S.lines) t before after booked

pub returns-clause-ascend : goal.returns-clause-ascend
returns-clause-ascend c = sent_ascends
