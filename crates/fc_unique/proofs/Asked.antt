-- What a facet asks that shows its buckets.
use Rattle.std.proofs.Common.{◌≡◌, true, false, ◌||◌, ap, ◌∙◌}
use Rattle.std.proofs.Math.Bool.{or-false}
use Rattle.fc_spec.specs.requests.Request.{no_nodes}
use Rattle.fc_spec.specs.requests.Spread.{show_of}
use Rattle.fc_request.specs.declared.node.Node.{Node}
use Rattle.fc_request.specs.FacetNode.{has_buckets, kind_of, kind_view}
use Rattle.fc_request.specs.NodeView.{inner_view, node_view}
use Rattle.fc_request.proofs.Nodes.{before, facet_is}
use Rattle.fc_unique.specs.Asking.{asks_numbers, shows_number}

-- as those nested in it
pub nested_ask : (n : Node) → has_buckets (kind_of n) ≡ true → shows_number (show_of (kind_view (kind_of n))) ≡ false → asks_numbers (before (node_view n) no_nodes) ≡ asks_numbers (inner_view n)
nested_ask n h none =
    ap asks_numbers (facet_is n h no_nodes)
    ∙ ap (λ a. a || (asks_numbers (inner_view n) || false)) none
    ∙ or-false (asks_numbers (inner_view n))
