use Rattle.std.proofs.Common.{ap, sym, ◌∙◌}
use Rattle.std.proofs.lemmas.Bool.{ltb-true}
use Rattle.fc_request.specs.NodeView.{nodes_view}
use Rattle.fc_request.specs.FacetNode.{kind_of}
use Rattle.fc_request.proofs.Nodes.{has_buckets_by}
use Rattle.fc_refine.proofs.Shapes.{in_facet, in_statistic, in_nothing}
use Rattle.fc_told.proofs.ways.nodes_in.Goals as goal

pub returns-in-Stat : goal.returns-in-Stat
returns-in-Stat c = in_statistic _ _ c.in-Some.node.now (ltb-true _ _ (sym c.in-Some.ensures.lookup.0)) c.in-Some.ensures.lookup.1 _ c.in-Stat.is

pub returns-in_default : goal.returns-in_default
returns-in_default c = ap nodes_view c.deref.ensures.value ∙ in_facet _ _ c.in-Some.node.now (ltb-true _ _ (sym c.in-Some.ensures.lookup.0)) c.in-Some.ensures.lookup.1 (has_buckets_by (kind_of c.in-Some.node.now) c.in_default.not-Stat)

pub returns-in-None : goal.returns-in-None
returns-in-None c = in_nothing _ _ c.in-None.ensures.lookup.3
