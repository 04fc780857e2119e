use Rattle.fc_spec.proofs.documents.LiveBlocks.{operations_go_by_lists, live_documents}
use Rattle.fc_spec.proofs.operations_go_by_lists.Goals as goal

pub returns : goal.returns
returns c = record { lists = operations_go_by_lists; positions = live_documents }
