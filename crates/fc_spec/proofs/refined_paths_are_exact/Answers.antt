use Rattle.fc_spec.proofs.replies.ExactPaths.{refined_paths}
use Rattle.fc_spec.proofs.refined_paths_are_exact.Goals as goal

pub returns : goal.returns
returns c = refined_paths
