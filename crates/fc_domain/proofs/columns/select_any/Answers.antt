use Rattle.std.proofs.Common.{◌∙◌}
use Rattle.fc_domain.proofs.Unbounded.{rows_with_any}
use Rattle.fc_domain.proofs.columns.select_any.Goals as goal

pub returns : goal.returns
returns c = c.select_between.ensures ∙ rows_with_any _
