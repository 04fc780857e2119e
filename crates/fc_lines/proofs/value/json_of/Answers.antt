use Rattle.std.proofs.Common.{sym}
use Rattle.std.proofs.lemmas.Bool.{false≢true}
use Rattle.serde_json.specs.View.{view}
use Rattle.fc_lines.proofs.CutLines.{json_of_read, json_of_unread}
use Rattle.fc_lines.proofs.value.json_of.Goals as goal

pub returns-in-Ok : goal.returns-in-Ok
returns-in-Ok c = sym (json_of_read c.args.line.now (view c.in-Ok.value) c.in-Ok.ensures.ok.0 c.in-Ok.ensures.ok.1)

pub returns-else-is_memory : goal.returns-else-is_memory
returns-else-is_memory c = sym (json_of_unread c.args.line.now (c.in-Err.ensures.err (λ memory. false≢true (c.if-is_memory.ensures.1 memory))))
