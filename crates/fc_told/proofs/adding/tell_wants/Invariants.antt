use Rattle.std.proofs.Common.{◌≡◌, drop}
use Rattle.fc_spec.specs.messages.Held.{told_wants}
use Rattle.fc_spec.specs.messages.Message as definition
use Rattle.fc_partial.specs.BucketView.{buckets_view}
use Rattle.fc_refine.specs.AskView.{wants_view}
use Rattle.fc_request.specs.NodeView.{nodes_view}
use Rattle.fc_told.specs.Adding.{all_added}
use Rattle.fc_refine.specs.Named.{NamesKeys}
use Rattle.fc_told.specs.TreeView.{tree_view}
use Rattle.fc_told.proofs.adding.tell_wants.Given as goal

abbrev pub invariant-loop-want : goal.invariant-loop-want
invariant-loop-want l = record {
  added : all_added (told_wants (nodes_view l.nodes) l.shard (wants_view l.wants) (buckets_view l.fn.buckets.items)) (tree_view l.fn.told)
      ≡ all_added (told_wants (nodes_view l.nodes) l.shard (wants_view (drop l.want-index l.wants)) (buckets_view l.left.rest.items)) (tree_view l.told);
  named : NamesKeys (nodes_view l.nodes) (definition.more (wants_view (drop l.want-index l.wants)));
}
