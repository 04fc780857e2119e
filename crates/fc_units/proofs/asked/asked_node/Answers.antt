use Rattle.std.proofs.Common.{◌∙◌, sym, ap, subst, IsTrue, true}
use Rattle.std.specs.Arc.{arc_value}
use Rattle.fc_spec.specs.laws.LacksLaws.{names_keys}
use Rattle.fc_spec.specs.messages.Message.{way_of}
use Rattle.fc_spec.specs.messages.Target.{facet_at}
use Rattle.fc_spec.specs.requests.Buckets.{is_key_of}
use Rattle.fc_request.specs.FacetNode.{kind_of, kind_view}
use Rattle.fc_request.specs.NodeView.{nodes_view}
use Rattle.fc_request.specs.RequestView.{request_view}
use Rattle.fc_refine.specs.AskView.{ask_view, want_view, way_view}
use Rattle.fc_levels.specs.Facets.{nested_view}
use Rattle.fc_jobs.specs.Walked.{nodes_from}
use Rattle.fc_units.specs.Asked as asked
use Rattle.fc_refine.specs.Named.{NamesKeys}
use Rattle.fc_units.specs.Asked.{IsAskedFacet}
use Rattle.fc_levels.specs.Steps.{AreValid}
use Rattle.fc_units.proofs.AskedNodes.{key_is, named_at, node_is_at, path_is, within_more}
use Rattle.fc_units.proofs.asked.asked_node.Goals as goal

pub want_at-requires : goal.want_at-requires
want_at-requires c = within_more c.args.ask.now c.in-More.wants c.args.number c.in-More.is c.requires.number

pub wanted_node-requires : goal.wanted_node-requires
wanted_node-requires c =
    let within = within_more c.args.ask.now c.in-More.wants c.args.number c.in-More.is c.requires.number in
    let names = subst (λ a. NamesKeys (request_view c.args.request.now).nodes (ask_view a)) c.in-More.is c.requires.names in
    subst (λ ns. IsTrue (names_keys (nodes_view ns) (way_of (want_view c.want_at.result.now)))) (sym c.deref.ensures.value)
    (named_at (request_view c.args.request.now).nodes (arc_value c.in-More.wants).items c.args.number c.want_at.result.now names within c.want_at.ensures)

pub returns-in-More-clause-facet : goal.returns-in-More-clause-facet
returns-in-More-clause-facet c =
    let within = within_more c.args.ask.now c.in-More.wants c.args.number c.in-More.is c.requires.number in
    let w = c.want_at.result.now in
    let r = request_view c.args.request.now in
    let n = nested_view c.wanted_node.result.now in
    let path = path_is (arc_value c.in-More.wants).items c.args.number w within c.want_at.ensures in
    let node = node_is_at (arc_value c.in-More.wants).items c.args.number w within c.want_at.ensures in
    subst (λ a. IsAskedFacet (nested_view c.args.request.now.root) r (ask_view a) c.args.number n) (sym c.in-More.is)
    ((λ i. facet_at (node i) (nodes_from r.nodes (path i))) ∙ ap (λ ns. facet_at w.node (nodes_from (nodes_view ns) (way_view (arc_value w.path).items))) (sym c.deref.ensures.value) ∙ c.wanted_node.ensures.facet)

pub returns-in-More-clause-valid : goal.returns-in-More-clause-valid
returns-in-More-clause-valid c s root valid = c.wanted_node.ensures.valid s (subst (λ ns. AreValid s (nodes_view ns)) (sym c.deref.ensures.value) (true, valid.nodes))

pub returns-in-More-clause-key : goal.returns-in-More-clause-key
returns-in-More-clause-key c root =
    let within = within_more c.args.ask.now c.in-More.wants c.args.number c.in-More.is c.requires.number in
    let key = key_is (arc_value c.in-More.wants).items c.args.number c.want_at.result.now within c.want_at.ensures in
    let kind = kind_view (kind_of c.wanted_node.result.now) in
    subst (λ a. IsTrue (is_key_of kind (asked.asked_key (ask_view a) c.args.number))) (sym c.in-More.is) (subst (λ k. IsTrue (is_key_of kind k)) (sym key) c.wanted_node.ensures.key)
