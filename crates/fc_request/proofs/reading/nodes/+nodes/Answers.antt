use Rattle.std.proofs.Common.{arith, ◌++◌, ◌∙◌, ap, sym, map, Vec, Global, Ok}
use Rattle.std.specs.Prelude.{string_bytes}
use Rattle.serde_json.specs.View.{view, members_view}
use Rattle.fc_spec.specs.requests.RequestReading.{members_read}
use Rattle.fc_request.specs.declared.node.Node.{Node}
use Rattle.fc_request.specs.HeadView.{head_view, kind_head_view}
use Rattle.fc_request.specs.Heads.{node_within, walked}
use Rattle.fc_facet.specs.KindView.{domain_view}
use Rattle.fc_request.specs.NodeView.{node_view, nodes_view}
use Rattle.fc_request.specs.Beside.{with_numbers}
use Rattle.fc_request.proofs.NodeAnswers.{refused_node, statistic_within, facet_within, one_more}
use Rattle.fc_request.proofs.NodeWalk.{behind, linked_before-linked}
use Rattle.fc_request.proofs.reading.nodes.+nodes.Goals as goal

pub read_node-returns-in_ok-statistic_node-in-Ok-Statistic-clause-answer :
    goal.read_node-returns-in_ok-statistic_node-in-Ok-Statistic-clause-answer
read_node-returns-in_ok-statistic_node-in-Ok-Statistic-clause-answer t c =
    statistic_within c.args.left c.args.seen.now c.args.schema.now c.args.outermost c.args.unmoved c.args.name.now (view c.args.json.now) _ _
    (rw c.in-Ok-Statistic.field-0-is at c.in-Ok-Statistic.ensures.answer)
    c.in_ok-statistic_node-in-Ok-Statistic.ensures

pub read_node-returns-in-Ok-Facet-clause-answer : goal.read_node-returns-in-Ok-Facet-clause-answer
read_node-returns-in-Ok-Facet-clause-answer t c =
    facet_within (λ (nodes : Vec Node Global). nodes_view nodes.items) c.args.left c.args.seen.now c.inner_nodes-nodes.new.seen c.args.schema.now c.args.outermost c.args.unmoved c.args.name.now (view c.args.json.now)
    (domain_view c.in-Ok-Facet.domain) (kind_head_view c.in-Ok-Facet.kind) _ c.inner_nodes-nodes.result c.facet_with.result
    (rw c.in-Ok-Facet.field-0-is at c.in-Ok-Facet.ensures.answer)
    (rw c.is_unmoved_under-unmoved.ensures at c.inner_nodes-nodes.ensures.answer) c.facet_with.ensures

pub read_node-returns-in-Err-clause-answer : goal.read_node-returns-in-Err-clause-answer
read_node-returns-in-Err-clause-answer t c =
    refused_node head_view (λ (node : Node). walked (node_view node).1 0) c.in-Err.refusal c.args.left c.args.seen.now c.args.schema.now c.args.outermost c.args.unmoved c.args.name.now (view c.args.json.now) c.in-Err.ensures.answer

pub read_nodes-loop-name-preserved : goal.read_nodes-loop-name-preserved
read_nodes-loop-name-preserved t c = record {
  read =
      let f = node_within c.args.left c.args.schema.now c.args.outermost c.args.unmoved in
      let text = c.as_str-name.ensures.value in
      sym (one_more f c.loop-name.nodes.items c.push_with_number.new.nodes.items c.in-Ok.node c.loop-name.seen c.read_node.new.seen (string_bytes c.in-Some.name.now) (view c.in-Some.json.now) (members_view c.next.new.self)
      (ap (λ name. f c.loop-name.seen name (view c.in-Some.json.now)) (sym text) ∙ c.in-Ok.ensures.answer)
      (c.in-Ok.ensures.name ∙ text)
      (c.in_ok-push_with_number-in-Ok.ensures.read ∙ ap (λ asked. map node_view c.loop-name.nodes.items ++ with_numbers asked (node_view c.in-Ok.node)) c.asks_number.ensures))
      ∙ ap (λ es. behind (map node_view c.loop-name.nodes.items) (members_read f c.loop-name.seen (members_view es))) (sym c.in-Some.ensures.steps)
      ∙ c.loop-name.invariant.read;
  counted = omega (arith, c.in_ok-push_with_number-in-Ok.ensures.few, c.in-Ok.ensures.counted);
  rises = omega arith;
  few = omega arith;
}

pub read_nodes-returns-clause-answer : goal.read_nodes-returns-clause-answer
read_nodes-returns-clause-answer t c =
    let f = node_within c.args.left c.args.schema.now c.args.outermost c.args.unmoved in
    sym c.loop-name.invariant.read
    ∙ ap (λ es. behind (map node_view c.loop-name.nodes.items) (members_read f c.loop-name.seen (members_view es))) c.in-None.ensures.steps.0
    ∙ ap (λ nodes. Ok (walked nodes c.loop-name.seen)) (linked_before-linked (map node_view c.loop-name.nodes.items))
