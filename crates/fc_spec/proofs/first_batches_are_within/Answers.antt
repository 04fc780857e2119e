use Rattle.fc_spec.proofs.scripts.FirstBatches.{first_are_within}
use Rattle.fc_spec.proofs.first_batches_are_within.Goals as goal

pub returns : goal.returns
returns c = first_are_within
