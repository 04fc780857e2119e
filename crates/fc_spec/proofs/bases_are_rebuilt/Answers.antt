use Rattle.fc_spec.proofs.requests.RebuiltPaths.{rebuilt_are_places}
use Rattle.fc_spec.proofs.bases_are_rebuilt.Goals as goal

pub returns : goal.returns
returns c = rebuilt_are_places
