use Rattle.fc_spec.proofs.messages.WholeTraces.{valid_whole_traces_are_listed, valid_whole_traces_are_within, whole_traces_ascend}
use Rattle.fc_spec.proofs.whole_traces_are_maps.Goals as goal

pub returns-clause-ascend : goal.returns-clause-ascend
returns-clause-ascend c = whole_traces_ascend

pub returns-clause-within : goal.returns-clause-within
returns-clause-within c = valid_whole_traces_are_within

pub returns-clause-listed : goal.returns-clause-listed
returns-clause-listed c = valid_whole_traces_are_listed
