use Rattle.fc_request.specs.FacetNode.{kind_of, kind_view}
use Rattle.fc_jobs.proofs.EmptySets.{none_collected, none_found}
use Rattle.fc_jobs.proofs.choosing.collect.Goals as goal

pub returns-then-is_none : goal.returns-then-is_none
returns-then-is_none g c =
    none_collected (kind_view (kind_of c.args.node.now)) c.args.into.now.stats c.args.segment.now.blocks c.args.docs.now c.args.into.now
    (none_found c.next_from.result c.is_none.result c.args.docs.now c.next_from.ensures.found c.is_none.ensures c.if-is_none.true)
