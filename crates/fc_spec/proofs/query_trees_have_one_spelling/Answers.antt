use Rattle.fc_spec.proofs.queries.TreesOfTokens.{one_tree}
use Rattle.fc_spec.proofs.query_trees_have_one_spelling.Goals as goal

pub returns : goal.returns
returns c = one_tree
