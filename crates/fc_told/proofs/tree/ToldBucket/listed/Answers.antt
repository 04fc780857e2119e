use Rattle.std.proofs.Common.{◌∙◌}
use Rattle.fc_request.specs.FacetNode.{vals_view}
use Rattle.fc_told.specs.Trees.{offered_at}
use Rattle.fc_told.specs.TreeView.{tree_view}
use Rattle.fc_told.proofs.Listed.{all_ascend, same_lists}
use Rattle.fc_told.proofs.tree.ToldBucket.listed.Goals as goal

pub returns-clause-ascend : goal.returns-clause-ascend
returns-clause-ascend c =
    all_ascend (λ list. vals_view list.items) (λ i. offered_at c.args.node i (tree_view c.args.self.now)) c.in_ok-lists.lists.items c.args.shards.now
    (c.in_ok-lists.ensures ∙ same_lists _ _ c.args.shards.now c.in_ok-by_shard.ensures.listed) c.in_ok-by_shard.ensures.ascend
