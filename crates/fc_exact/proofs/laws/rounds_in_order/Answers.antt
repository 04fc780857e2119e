use Rattle.fc_exact.proofs.Askable.{are_askable}
use Rattle.fc_exact.proofs.InOrder.{has_fewer_left, is_told_at_start, is_told_further, tells_tops}
use Rattle.fc_exact.proofs.laws.rounds_in_order.Goals as goal

pub returns-clause-start : goal.returns-clause-start
returns-clause-start c = is_told_at_start

pub returns-clause-taken : goal.returns-clause-taken
returns-clause-taken c = is_told_further

pub returns-clause-fewer : goal.returns-clause-fewer
returns-clause-fewer c = has_fewer_left

pub returns-clause-tops : goal.returns-clause-tops
returns-clause-tops c = tells_tops

pub returns-clause-askable : goal.returns-clause-askable
returns-clause-askable c = are_askable
