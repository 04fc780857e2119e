use Rattle.fc_spec.proofs.requests.Certificate.{certified_are_enough, shares_are_enough, ranks_are_reached}
use Rattle.fc_spec.proofs.replies.TopValues.{tops_are_listed, counts_alone}
use Rattle.fc_spec.proofs.top_values_are_certified.Goals as goal

pub returns-clause-enough : goal.returns-clause-enough
returns-clause-enough c = certified_are_enough

pub returns-clause-shares : goal.returns-clause-shares
returns-clause-shares c = shares_are_enough

pub returns-clause-ranks : goal.returns-clause-ranks
returns-clause-ranks c = ranks_are_reached

pub returns-clause-listed : goal.returns-clause-listed
returns-clause-listed c = tops_are_listed

pub returns-clause-counts : goal.returns-clause-counts
returns-clause-counts c = counts_alone
