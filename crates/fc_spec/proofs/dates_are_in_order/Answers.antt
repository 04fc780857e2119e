use Rattle.fc_spec.proofs.dates.DateOrder.{in_order}
use Rattle.fc_spec.proofs.dates.ReadDates.{reads_again}
use Rattle.fc_spec.proofs.requests.ValidDateRanges.{canonical_is, added_is_later, gap_is}
use Rattle.fc_spec.proofs.dates_are_in_order.Goals as goal

pub returns-clause-order : goal.returns-clause-order
returns-clause-order c = in_order

pub returns-clause-again : goal.returns-clause-again
returns-clause-again c = reads_again

pub returns-clause-own : goal.returns-clause-own
returns-clause-own c = canonical_is

pub returns-clause-sums : goal.returns-clause-sums
returns-clause-sums c = added_is_later

pub returns-clause-gaps : goal.returns-clause-gaps
returns-clause-gaps c = gap_is
