use Rattle.std.proofs.Common.{◌∙◌, ap, sym}
use Rattle.fc_request.specs.FacetNode.{kind_of}
use Rattle.fc_request.specs.NodeView.{nodes_view}
use Rattle.fc_request.proofs.Nodes.{has_buckets_by}
use Rattle.fc_unique.specs.Asking.{asks_numbers}
use Rattle.fc_unique.proofs.Asked.{nested_ask}
use Rattle.fc_unique.proofs.asking.+asking.Goals as goal

pub asks_number-returns-else-shows_number : goal.asks_number-returns-else-shows_number
asks_number-returns-else-shows_number t c =
    let n = c.args.node.now in
    c.asks_numbers.ensures ∙ ap (λ nodes. asks_numbers (nodes_view nodes)) c.deref.ensures.value
    ∙ sym (nested_ask n (has_buckets_by (kind_of n) c.in_default.not-Stat) (sym c.shows_number.ensures ∙ c.if-shows_number.false))
