use Rattle.fc_lacks.proofs.Untold.{untold_lack}
use Rattle.fc_lacks.proofs.law.lacking_is_untold.Goals as goal

pub returns : goal.returns
returns c = untold_lack
