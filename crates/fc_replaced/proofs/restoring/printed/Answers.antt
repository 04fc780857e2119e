use Rattle.std.proofs.Common.{option_map}
use Rattle.fc_base.specs.StatisticView.{stat_view}
use Rattle.fc_reply.specs.ReplyView.{facet_view, facets_view}
use Rattle.fc_request.specs.FacetNode.{kind_of}
use Rattle.fc_request.proofs.Nodes.{has_buckets_by}
use Rattle.fc_replaced.proofs.RestoredNodes.{number_step}
use Rattle.fc_replaced.proofs.restoring.printed.Goals as goal

pub facet-requires : goal.facet-requires
facet-requires c = has_buckets_by (kind_of c.args.node.now) c.in_default.not-Stat

pub returns-in-Stat : goal.returns-in-Stat
returns-in-Stat c = λ rest vss first.
    let s = c.in-Stat.field-0 in
    number_step c.args.node.now rest vss c.args.is_empty (facets_view c.args.left.now.items) s (facets_view c.next_number.new.left.items) (option_map facet_view c.next_number.result) c.in-Stat.is
    (c.next_number.ensures rest (stat_view s) vss c.args.is_empty)
