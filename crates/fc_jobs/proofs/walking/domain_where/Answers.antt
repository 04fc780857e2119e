use Rattle.std.proofs.Common.{◌≡◌, ◌<◌, ◌+◌, drop, length, sym, ap, ap₂, subst, ◌∙◌}
use Rattle.std.proofs.lemmas.List.Elements.{All-push, All-same}
use Rattle.std.proofs.lemmas.Bool.{ltb-true}
use Rattle.fc_spec.specs.laws.LacksLaws.{names_keys}
use Rattle.fc_partial.specs.View.{key_view}
use Rattle.fc_refine.specs.AskView.{way_view}
use Rattle.fc_request.specs.FacetNode.{facet_view, kind_of, kind_view}
use Rattle.fc_request.specs.NodeView.{inner_view, nodes_view}
use Rattle.fc_request.specs.RequestView.{request_view}
use Rattle.fc_jobs.specs.FacetFits.{AllFit}
use Rattle.fc_spec.specs.requests.DomainSets.{bucket_set}
use Rattle.fc_spec.specs.requests.Paths.{at_root}
use Rattle.fc_answers.specs.SetAnswer.{inside, scope_on}
use Rattle.fc_jobs.specs.Pieces.{piece_of}
use Rattle.fc_jobs.specs.Scopes.{EnclosingFits, scope_over}
use Rattle.fc_jobs.specs.Walked.{domain_set, scope_along, walked}
use Rattle.fc_jobs.proofs.RebuiltScopes.{scope_push}
use Rattle.fc_jobs.proofs.SteppedWays.{fits_there, is_facet, is_there, keys_inside, own_key, scope_more, walked_more}
use Rattle.fc_jobs.proofs.walking.domain_where.Goals as goal

pub unreachable-requires : goal.unreachable-requires
unreachable-requires g c =
    is_there c.loop-step.nodes.now c.args.way.now c.loop-step.step-index c.step-item.result c.loop-step-test.true c.step-item.is c.loop-step.invariant.keys c.in_default.ensures.lookup.3

pub entered-requires-clause-facet : goal.entered-requires-clause-facet
entered-requires-clause-facet g c =
    let there : c.step-item.result.node < length c.loop-step.nodes.now = ltb-true _ _ (sym c.in-Some.ensures.lookup.0) in
    is_facet c.loop-step.nodes.now c.args.way.now c.loop-step.step-index c.step-item.result c.loop-step-test.true c.step-item.is c.loop-step.invariant.keys c.in-Some.around.now there c.in-Some.ensures.lookup.1

pub entered-requires-clause-change : goal.entered-requires-clause-change
entered-requires-clause-change g c =
    let there : c.step-item.result.node < length c.loop-step.nodes.now = ltb-true _ _ (sym c.in-Some.ensures.lookup.0) in
    (fits_there c.loop-step.nodes.now c.args.way.now c.loop-step.step-index c.step-item.result c.loop-step-test.true c.step-item.is c.loop-step.invariant.keys c.in-Some.around.now there c.in-Some.ensures.lookup.1 c.args.segment.now.texts c.loop-step.invariant.fit).0

pub entered-requires-clause-kind : goal.entered-requires-clause-kind
entered-requires-clause-kind g c =
    let there : c.step-item.result.node < length c.loop-step.nodes.now = ltb-true _ _ (sym c.in-Some.ensures.lookup.0) in
    (fits_there c.loop-step.nodes.now c.args.way.now c.loop-step.step-index c.step-item.result c.loop-step-test.true c.step-item.is c.loop-step.invariant.keys c.in-Some.around.now there c.in-Some.ensures.lookup.1 c.args.segment.now.texts c.loop-step.invariant.fit).1

pub entered-requires-clause-key : goal.entered-requires-clause-key
entered-requires-clause-key g c =
    let there : c.step-item.result.node < length c.loop-step.nodes.now = ltb-true _ _ (sym c.in-Some.ensures.lookup.0) in
    own_key c.loop-step.nodes.now c.args.way.now c.loop-step.step-index c.step-item.result c.loop-step-test.true c.step-item.is c.loop-step.invariant.keys c.in-Some.around.now there c.in-Some.ensures.lookup.1

pub entered-requires-clause-kept : goal.entered-requires-clause-kept
entered-requires-clause-kept g c = (c.requires.kept.0, c.requires.kept.1, c.loop-step.invariant.kept _ c.requires.kept.1 c.requires.kept.2)

pub changed-requires-clause-kept : goal.changed-requires-clause-kept
changed-requires-clause-kept g c = (c.requires.kept.0, c.requires.kept.1, c.loop-step.invariant.kept _ c.requires.kept.1 c.requires.kept.2)

pub loop-step-preserved : goal.loop-step-preserved
loop-step-preserved g c =
    let xs = c.loop-step.nodes.now in
    let way = c.args.way.now in
    let i = c.loop-step.step-index in
    let step = c.step-item.result in
    let n = c.in-Some.around.now in
    let r = request_view c.args.request.now in
    let p = piece_of c.args.segment.now in
    let texts = c.args.segment.now.texts in
    let rest = way_view (drop (i + 1) way) in
    let there : step.node < length xs = ltb-true _ _ (sym c.in-Some.ensures.lookup.0) in
    let inside' = c.deref-nodes.ensures.value in
    let old = c.loop-step.enclosing.items in
    let o = scope_over r old in
    let further : scope_over r c.push.new.self.items ≡ inside o (facet_view n) (key_view step.key) = ap (scope_over r) c.in_ok-push.ensures.items ∙ scope_push (scope_on r at_root) old _ in
    let domain = domain_set o p (facet_view n) c.loop-step.docs in
    let docs_are : c.in_ok-docs-2.docs ≡ bucket_set (kind_view (kind_of n)) (key_view step.key) p.blocks domain =
    c.in_ok-docs-2.ensures.set ∙ ap (λ xs. bucket_set (kind_view (kind_of n)) (key_view step.key) p.blocks (domain_set (scope_over r xs) p (facet_view n) c.loop-step.docs)) c.deref.ensures.value in
    let fits = fits_there xs way i step c.loop-step-test.true c.step-item.is c.loop-step.invariant.keys n there c.in-Some.ensures.lookup.1 texts c.loop-step.invariant.fit in
    record {
      there = ap₂ (λ scope ns. walked scope p (nodes_view ns) c.in_ok-docs-2.docs rest) further inside' ∙ ap (λ s. walked (inside o (facet_view n) (key_view step.key)) p (inner_view n) s rest) docs_are
          ∙ walked_more xs way i step c.loop-step-test.true c.step-item.is c.loop-step.invariant.keys n there c.in-Some.ensures.lookup.1 o p c.loop-step.docs ∙ c.loop-step.invariant.there;
      scope = ap₂ (λ scope ns. scope_along scope (nodes_view ns) rest) further inside'
          ∙ scope_more xs way i step c.loop-step-test.true c.step-item.is c.loop-step.invariant.keys n there c.in-Some.ensures.lookup.1 o ∙ c.loop-step.invariant.scope;
      enclosing = All-same (EnclosingFits texts) c.push.new.self.items _ c.in_ok-push.ensures.items (All-push (EnclosingFits texts) old _ c.loop-step.invariant.enclosing (record {
        facet = is_facet xs way i step c.loop-step-test.true c.step-item.is c.loop-step.invariant.keys n there c.in-Some.ensures.lookup.1;
        change = fits.0;
        kind = fits.1;
        key = own_key xs way i step c.loop-step-test.true c.step-item.is c.loop-step.invariant.keys n there c.in-Some.ensures.lookup.1;
      }));
      long = c.in_ok-docs-2.ensures.length;
      fit = subst (λ ns. AllFit texts (nodes_view ns)) (sym inside') fits.2;
      kept = λ V there are. c.entered.ensures.kept V there (c.loop-step.invariant.kept V there are);
      keys = ap (λ ns. names_keys (nodes_view ns) rest) inside'
          ∙ keys_inside xs way i step c.loop-step-test.true c.step-item.is c.loop-step.invariant.keys n there c.in-Some.ensures.lookup.1;
    }

pub returns-in_err-docs-2-clause-kept : goal.returns-in_err-docs-2-clause-kept
returns-in_err-docs-2-clause-kept g c = λ V there are. c.entered.ensures.kept V there (c.loop-step.invariant.kept V there are)

pub returns-in_err-push-clause-kept : goal.returns-in_err-push-clause-kept
returns-in_err-push-clause-kept g c = λ V there are. c.entered.ensures.kept V there (c.loop-step.invariant.kept V there are)

pub returns-clause-kept : goal.returns-clause-kept
returns-clause-kept g c = λ V there are. c.changed.ensures.kept V there (c.loop-step.invariant.kept V there are)
