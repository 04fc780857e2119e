use Rattle.fc_spec.proofs.scripts.WorldTotals.{added_are_within}
use Rattle.fc_spec.proofs.added_are_within_limits.Goals as goal

pub returns : goal.returns
returns c = added_are_within
