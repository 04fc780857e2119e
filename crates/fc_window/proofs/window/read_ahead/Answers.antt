use Rattle.fc_window.proofs.Windows.{same_lines}
use Rattle.fc_window.proofs.window.read_ahead.Goals as goal

pub returns-clause-lines : goal.returns-clause-lines
returns-clause-lines g c = same_lines c.args.schema.now c.args.window.now c.read_all.new.window c.read_all.ensures.count c.read_all.ensures.each
