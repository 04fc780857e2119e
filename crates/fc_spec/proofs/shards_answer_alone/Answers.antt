use Rattle.fc_spec.proofs.messages.OwnBlocks.{answers_from_its_blocks, exact_from_its_blocks}
use Rattle.fc_spec.proofs.shards_answer_alone.Goals as goal

pub returns-clause-answers : goal.returns-clause-answers
returns-clause-answers c = answers_from_its_blocks

pub returns-clause-exact : goal.returns-clause-exact
returns-clause-exact c = exact_from_its_blocks
