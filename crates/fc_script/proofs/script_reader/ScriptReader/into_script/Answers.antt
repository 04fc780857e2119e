use Rattle.std.proofs.Common.{IfOk}
use Rattle.fc_script.specs.GatheredView.{gathered_view}
use Rattle.fc_script.specs.ReadSoFar.{script_so_far}
use Rattle.fc_script.specs.ReadView.{HasParts}
use Rattle.fc_script.proofs.ReaderAnswers.{by_lines, so_far}
use Rattle.fc_script.proofs.ScriptSteps.{has_parts}
use Rattle.fc_script.proofs.WithinLimits.{is_within}
use Rattle.fc_script.proofs.script_reader.ScriptReader.into_script.Goals as goal

pub returns : goal.returns
returns c = by_lines c.args.self (λ S. IfOk c.finish.result (λ script. HasParts S.limits script (script_so_far S))) (λ m ls has.
    let self = c.args.self in
    has_parts (script_so_far (so_far m self ls)) self.sessions.items has.sessions (gathered_view self.sessions.items self.gathered) has.gathered c.finish.result c.finish.ensures.parts
    m (is_within self (so_far m self ls) has) (c.finish.ensures.sound has.sound) c.finish.ensures.valid)
