use Rattle.fc_kind.proofs.JoinedTallies.{joins}
use Rattle.fc_kind.proofs.law.collecting_joins.Goals as goal

pub returns : goal.returns
returns c = joins
