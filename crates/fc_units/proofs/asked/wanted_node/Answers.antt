use Rattle.std.proofs.Common.{◌∙◌, sym, ap}
use Rattle.fc_spec.specs.messages.Target.{facet_at}
use Rattle.fc_partial.specs.View.{key_view}
use Rattle.fc_request.specs.NodeView.{nodes_view}
use Rattle.fc_refine.specs.AskView.{way_view}
use Rattle.fc_jobs.specs.Walked.{nodes_from}
use Rattle.fc_units.proofs.AskedNodes.{names, valid_there}
use Rattle.fc_units.proofs.asked.wanted_node.Goals as goal

pub bounds-inside-want : goal.bounds-inside-want
bounds-inside-want c = (names c.nodes_along-inside.result.now c.args.want.now.node (key_view c.args.want.now.key) c.nodes_along-inside.ensures.named).within

pub returns-clause-facet : goal.returns-clause-facet
returns-clause-facet c =
    let named = names c.nodes_along-inside.result.now c.args.want.now.node (key_view c.args.want.now.key) c.nodes_along-inside.ensures.named in
    ap (facet_at c.args.want.now.node) (sym (c.nodes_along-inside.ensures.there ∙ ap (λ ss. nodes_from (nodes_view c.args.nodes.now) (way_view ss)) c.way.ensures))
    ∙ (named.there c.index-inside-want.result c.index-inside-want.is).0

pub returns-clause-valid : goal.returns-clause-valid
returns-clause-valid c s valid =
    let named = names c.nodes_along-inside.result.now c.args.want.now.node (key_view c.args.want.now.key) c.nodes_along-inside.ensures.named in
    valid_there s c.nodes_along-inside.result.now c.args.want.now.node (key_view c.args.want.now.key) c.index-inside-want.result named c.index-inside-want.is (c.nodes_along-inside.ensures.valid s valid)

pub returns-clause-key : goal.returns-clause-key
returns-clause-key c =
    let named = names c.nodes_along-inside.result.now c.args.want.now.node (key_view c.args.want.now.key) c.nodes_along-inside.ensures.named in
    (named.there c.index-inside-want.result c.index-inside-want.is).2
