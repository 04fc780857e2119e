use Rattle.std.proofs.Common.{[], IsTrue, sym, ap, subst, ◌∙◌}
use Rattle.fc_spec.specs.laws.LacksLaws.{names_keys}
use Rattle.std.proofs.lemmas.List.Elements.{All-nil, All-same}
use Rattle.fc_spec.specs.requests.Paths.{at_root}
use Rattle.fc_refine.specs.AskView.{ask_view, way_view}
use Rattle.fc_request.specs.NodeView.{nodes_view}
use Rattle.fc_request.specs.RequestView.{request_view}
use Rattle.fc_answers.specs.SetAnswer.{scope_on}
use Rattle.fc_jobs.specs.FacetFits.{AllFit}
use Rattle.fc_jobs.specs.Scopes.{EnclosingFits, scope_over}
use Rattle.fc_jobs.specs.Walked.{scope_along}
use Rattle.fc_units.specs.Asked.{top_scope}
use Rattle.fc_units.proofs.AskedNodes.{within_more}
use Rattle.fc_units.proofs.WantedWays.{want_named, want_scope}
use Rattle.fc_units.proofs.enclosing.on_the_way.Goals as goal

pub want_at-want-requires : goal.want_at-want-requires
want_at-want-requires c = within_more c.args.ask.now c.in-More.wants c.args.number c.in-More.is c.requires.number

pub enclosing_along-requires : goal.enclosing_along-requires
enclosing_along-requires c =
    subst (λ ns. IsTrue (names_keys (nodes_view ns) (way_view c.way.result.now))) (sym c.deref.ensures.value)
    (want_named (request_view c.args.request.now) _ _ c.args.number c.in-More.is c.requires.number _ c.want_at-want.ensures _ c.way.ensures c.requires.names)

pub returns-in-First-clause-scope : goal.returns-in-First-clause-scope
returns-in-First-clause-scope c =
    ap (scope_over (request_view c.args.request.now)) c.new.ensures.items ∙ sym (ap (λ a. top_scope (request_view c.args.request.now) (ask_view a) c.args.number) c.in-First.is)

pub returns-in-First-clause-fit : goal.returns-in-First-clause-fit
returns-in-First-clause-fit c = λ texts all. All-same (EnclosingFits texts) c.new.result.items [] c.new.ensures.items (All-nil (EnclosingFits texts))

pub returns-in_ok-enclosing-in-More-clause-scope : goal.returns-in_ok-enclosing-in-More-clause-scope
returns-in_ok-enclosing-in-More-clause-scope c =
    let o = scope_on (request_view c.args.request.now) at_root in
    c.in_ok-enclosing-in-More.ensures.scope o
    ∙ ap (λ ns. scope_along o (nodes_view ns) (way_view c.way.result.now)) c.deref.ensures.value
    ∙ want_scope (request_view c.args.request.now) _ _ c.args.number c.in-More.is c.requires.number _ c.want_at-want.ensures _ c.way.ensures

pub returns-in_ok-enclosing-in-More-clause-fit : goal.returns-in_ok-enclosing-in-More-clause-fit
returns-in_ok-enclosing-in-More-clause-fit c = λ texts all. c.in_ok-enclosing-in-More.ensures.fit texts (subst (λ ns. AllFit texts (nodes_view ns)) (sym c.deref.ensures.value) all)
