use Rattle.std.proofs.Common.{Ok}
use Rattle.fc_script.proofs.AskedLines.{answer_is_asked}
use Rattle.fc_script.proofs.script_reader.ScriptReader.with_text.Goals as goal

pub with_line-requires-clause-asked : goal.with_line-requires-clause-asked
with_line-requires-clause-asked c = answer_is_asked c.args.self.schema c.args.text.now (Ok c.in_ok-line.line) c.in_ok-line.ensures.answer
