use Rattle.fc_spec.proofs.messages.LacksApart.{lacks_stand_apart, lacks_differ_all, wants_stand_apart}
use Rattle.fc_spec.proofs.what_lacks_is_asked_once.Goals as goal

pub returns-clause-lacks : goal.returns-clause-lacks
returns-clause-lacks c = lacks_stand_apart

pub returns-clause-differ : goal.returns-clause-differ
returns-clause-differ c = lacks_differ_all

pub returns-clause-wants : goal.returns-clause-wants
returns-clause-wants c = wants_stand_apart
