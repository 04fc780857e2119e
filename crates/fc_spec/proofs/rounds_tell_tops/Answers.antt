use Rattle.fc_spec.proofs.messages.TopsTold.{tops_are_told, rounds_tell_tops, only_exact_has_tops}
use Rattle.fc_spec.proofs.messages.LeastCounts.{leasts_are_some}
use Rattle.fc_spec.proofs.rounds_tell_tops.Goals as goal

pub returns-clause-told : goal.returns-clause-told
returns-clause-told c = tops_are_told

pub returns-clause-rounds : goal.returns-clause-rounds
returns-clause-rounds c = rounds_tell_tops

pub returns-clause-alone : goal.returns-clause-alone
returns-clause-alone c = only_exact_has_tops

pub returns-clause-some : goal.returns-clause-some
returns-clause-some c = leasts_are_some
