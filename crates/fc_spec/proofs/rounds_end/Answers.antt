use Rattle.fc_spec.proofs.messages.Beyond.{nothing_lacks_beyond}
use Rattle.fc_spec.proofs.messages.RoundComplete.{rounds_complete, rounds_answer}
use Rattle.fc_spec.proofs.messages.SearchEnds.{searches_end, rounds_are_few}
use Rattle.fc_spec.proofs.rounds_end.Goals as goal

pub returns-clause-complete : goal.returns-clause-complete
returns-clause-complete c = rounds_complete

pub returns-clause-answer : goal.returns-clause-answer
returns-clause-answer c = rounds_answer

pub returns-clause-beyond : goal.returns-clause-beyond
returns-clause-beyond c = nothing_lacks_beyond

pub returns-clause-end : goal.returns-clause-end
returns-clause-end c = searches_end

pub returns-clause-few : goal.returns-clause-few
returns-clause-few c = rounds_are_few
