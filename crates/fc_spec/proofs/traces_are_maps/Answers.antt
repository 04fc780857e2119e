use Rattle.fc_spec.proofs.messages.ListedTraces.{valid_traces_are_listed}
use Rattle.fc_spec.proofs.messages.MessageLengths.{order_of_wants_is_free}
use Rattle.fc_spec.proofs.messages.TraceEntries.{entries_are_in, traces_ascend, valid_traces_are_within}
use Rattle.fc_spec.proofs.traces_are_maps.Goals as goal

pub returns-clause-ascend : goal.returns-clause-ascend
returns-clause-ascend c = traces_ascend

pub returns-clause-within : goal.returns-clause-within
returns-clause-within c = valid_traces_are_within

pub returns-clause-entries : goal.returns-clause-entries
returns-clause-entries c = entries_are_in

pub returns-clause-wants : goal.returns-clause-wants
returns-clause-wants c = order_of_wants_is_free

pub returns-clause-listed : goal.returns-clause-listed
returns-clause-listed c = valid_traces_are_listed
