use Rattle.std.proofs.Common.{◌∙◌, sym, ap, subst, get_or}
use Rattle.fc_spec.specs.messages.Target.{nodes_in}
use Rattle.fc_partial.specs.View.{key_view}
use Rattle.fc_request.specs.NodeView.{nodes_view}
use Rattle.fc_levels.specs.Steps.{AreValid}
use Rattle.fc_units.proofs.AskedNodes.{names, valid_there}
use Rattle.fc_units.proofs.asked.nodes_inside.Goals as goal

pub bounds-nodes-number : goal.bounds-nodes-number
bounds-nodes-number c = (names c.args.nodes.now c.args.number (key_view c.args.key.now) c.requires).within

pub returns-clause-there : goal.returns-clause-there
returns-clause-there c =
    let named = names c.args.nodes.now c.args.number (key_view c.args.key.now) c.requires in
    let n = get_or c.args.nodes.now c.args.number c.index-nodes-number.result in
    ap nodes_view c.deref.ensures.value ∙ sym (ap nodes_in (named.there n (ap (get_or c.args.nodes.now c.args.number) c.index-nodes-number.is)).0)

pub returns-clause-valid : goal.returns-clause-valid
returns-clause-valid c s valid =
    let named = names c.args.nodes.now c.args.number (key_view c.args.key.now) c.requires in
    let n = get_or c.args.nodes.now c.args.number c.index-nodes-number.result in
    subst (λ ns. AreValid s (nodes_view ns)) (sym c.deref.ensures.value) (valid_there s c.args.nodes.now c.args.number (key_view c.args.key.now) n named (ap (get_or c.args.nodes.now c.args.number) c.index-nodes-number.is) valid).inner
