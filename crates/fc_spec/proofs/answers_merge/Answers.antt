use Rattle.fc_spec.proofs.messages.MergedReply.{answers_merge_into_reply}
use Rattle.fc_spec.proofs.answers_merge.Goals as goal

pub returns : goal.returns
returns c = answers_merge_into_reply
