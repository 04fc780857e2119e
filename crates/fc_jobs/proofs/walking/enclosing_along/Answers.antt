use Rattle.std.proofs.Common.{◌<◌, ◌+◌, drop, length, sym, ap, ap₂, subst, ◌∙◌}
use Rattle.std.proofs.lemmas.Bool.{ltb-true}
use Rattle.std.proofs.lemmas.List.Elements.{All-push, All-same}
use Rattle.fc_spec.specs.laws.LacksLaws.{names_keys}
use Rattle.fc_refine.specs.AskView.{way_view}
use Rattle.fc_request.specs.NodeView.{nodes_view}
use Rattle.fc_jobs.specs.FacetFits.{AllFit}
use Rattle.fc_jobs.specs.Scopes.{EnclosingFits, scope_from}
use Rattle.fc_jobs.specs.Walked.{scope_along}
use Rattle.fc_jobs.proofs.RebuiltScopes.{scope_push}
use Rattle.fc_jobs.proofs.SteppedWays.{fits_there, is_facet, is_there, keys_inside, own_key, scope_more}
use Rattle.fc_jobs.proofs.walking.enclosing_along.Goals as goal

pub unreachable-requires : goal.unreachable-requires
unreachable-requires c =
    is_there c.loop-step.nodes.now c.args.way.now c.loop-step.step-index c.step-item.result c.loop-step-test.true c.step-item.is c.loop-step.invariant.keys c.in_default.ensures.lookup.3

pub loop-step-preserved : goal.loop-step-preserved
loop-step-preserved c =
    let xs = c.loop-step.nodes.now in
    let way = c.args.way.now in
    let i = c.loop-step.step-index in
    let step = c.step-item.result in
    let n = c.in-Some.around.now in
    let rest = way_view (drop (i + 1) way) in
    let there : step.node < length xs = ltb-true _ _ (sym c.in-Some.ensures.lookup.0) in
    let inside' = c.deref-nodes.ensures.value in
    let old = c.loop-step.enclosing.items in
    record {
      scope = λ o.
          ap₂ (λ scope ns. scope_along scope (nodes_view ns) rest) (ap (scope_from o) c.in_ok-push.ensures.items ∙ scope_push o old _) inside'
          ∙ scope_more xs way i step c.loop-step-test.true c.step-item.is c.loop-step.invariant.keys n there c.in-Some.ensures.lookup.1 (scope_from o old) ∙ c.loop-step.invariant.scope o;
      fit = λ texts all.
          let so_far = c.loop-step.invariant.fit texts all in
          let fits = fits_there xs way i step c.loop-step-test.true c.step-item.is c.loop-step.invariant.keys n there c.in-Some.ensures.lookup.1 texts so_far.0 in (
            subst (λ ns. AllFit texts (nodes_view ns)) (sym inside') fits.2,
            All-same (EnclosingFits texts) c.push.new.self.items _ c.in_ok-push.ensures.items (All-push (EnclosingFits texts) old _ so_far.1 (record {
              facet = is_facet xs way i step c.loop-step-test.true c.step-item.is c.loop-step.invariant.keys n there c.in-Some.ensures.lookup.1;
              change = fits.0;
              kind = fits.1;
              key = own_key xs way i step c.loop-step-test.true c.step-item.is c.loop-step.invariant.keys n there c.in-Some.ensures.lookup.1;
            })),
          );
      keys = ap (λ ns. names_keys (nodes_view ns) rest) inside'
          ∙ keys_inside xs way i step c.loop-step-test.true c.step-item.is c.loop-step.invariant.keys n there c.in-Some.ensures.lookup.1;
    }

pub returns-clause-fit : goal.returns-clause-fit
returns-clause-fit c = λ texts all. (c.loop-step.invariant.fit texts all).1
