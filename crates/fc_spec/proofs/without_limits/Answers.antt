use Rattle.fc_spec.proofs.replies.NoLimits.{exact_without_limits}
use Rattle.fc_spec.proofs.replies.SingleIndex.{exact_over_single, single_without_limits}
use Rattle.fc_spec.proofs.without_limits.Goals as goal

pub returns-clause-same_world : goal.returns-clause-same_world
returns-clause-same_world c = exact_without_limits

pub returns-clause-any_shards : goal.returns-clause-any_shards
returns-clause-any_shards c = exact_over_single

pub returns-clause-single_index : goal.returns-clause-single_index
returns-clause-single_index c = single_without_limits
