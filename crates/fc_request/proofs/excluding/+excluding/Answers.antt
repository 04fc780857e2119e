use Rattle.std.proofs.Common.{◌∙◌, ap, sym}
use Rattle.fc_spec.specs.requests.Shape.{no_exclusions}
use Rattle.fc_request.specs.FacetNode.{kind_of}
use Rattle.fc_request.specs.NodeView.{nodes_view}
use Rattle.fc_request.proofs.Nodes.{has_buckets_by}
use Rattle.fc_request.proofs.NestedDecide.{nested_decide}
use Rattle.fc_request.proofs.excluding.+excluding.Goals as goal

pub node_excludes_none-returns-then-excludes_none : goal.node_excludes_none-returns-then-excludes_none
node_excludes_none-returns-then-excludes_none t c =
    c.exclude_none.ensures
    ∙ ap (λ nodes. no_exclusions (nodes_view nodes)) c.deref.ensures.value
    ∙ sym (nested_decide c.args.node.now (has_buckets_by (kind_of c.args.node.now) c.in_default.not-Stat) (sym c.excludes_none.ensures ∙ c.if-excludes_none.true))
