use Rattle.fc_spec.proofs.messages.MessageSpelling.{one_spelling}
use Rattle.fc_spec.proofs.messages_have_one_spelling.Goals as goal

pub returns : goal.returns
returns c = one_spelling
