use Rattle.fc_spec.proofs.messages.LacksDeep.{lacks_at_depth}
use Rattle.fc_spec.proofs.messages.ToldOnce.{first_tell_once, rounds_tell_once}
use Rattle.fc_spec.proofs.messages.SearchesTellOnce.{searches_tell_once}
use Rattle.fc_spec.proofs.buckets_are_told_once.Goals as goal

pub returns-clause-depth : goal.returns-clause-depth
returns-clause-depth c = lacks_at_depth

pub returns-clause-first : goal.returns-clause-first
returns-clause-first c = first_tell_once

pub returns-clause-rounds : goal.returns-clause-rounds
returns-clause-rounds c = rounds_tell_once

pub returns-clause-searches : goal.returns-clause-searches
returns-clause-searches c = searches_tell_once
