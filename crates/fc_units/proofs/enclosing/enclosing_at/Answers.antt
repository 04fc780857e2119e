use Rattle.std.proofs.Common.{◌+◌, drop, sym, ap, ◌∙◌}
use Rattle.std.proofs.lemmas.List.{drop_all}
use Rattle.std.proofs.lemmas.List.Elements.{All-push, All-same}
use Rattle.fc_spec.specs.requests.Paths.{at_root}
use Rattle.fc_request.specs.RequestView.{request_view}
use Rattle.fc_answers.specs.SetAnswer.{scope_on}
use Rattle.fc_jobs.specs.Scopes.{EnclosingFits, scope_over}
use Rattle.fc_jobs.proofs.RebuiltScopes.{scope_push}
use Rattle.fc_levels.specs.Levels.{scope_in}
use Rattle.fc_units.proofs.Around.{level_fits, scope_next}
use Rattle.fc_units.proofs.enclosing.enclosing_at.Goals as goal

pub loop-level-init : goal.loop-level-init
loop-level-init c = record {
  scope = ap (λ o. scope_in o c.args.levels.now) c.in_ok-enclosing.ensures.scope;
  fit = λ texts nodes all. c.in_ok-enclosing.ensures.fit texts nodes;
}

pub loop-level-preserved : goal.loop-level-preserved
loop-level-preserved c =
    let r = request_view c.args.request.now in
    let levels = c.args.levels.now in
    let i = c.loop-level.level-index in
    let l = c.level-item.result in
    let old = c.loop-level.enclosing.items in
    record {
      scope = ap (λ o. scope_in o (drop (i + 1) levels)) (ap (scope_over r) c.in_ok-push.ensures.items ∙ scope_push (scope_on r at_root) old _)
          ∙ sym (scope_next (scope_over r old) levels i l c.loop-level-test.true c.level-item.is) ∙ c.loop-level.invariant.scope;
      fit = λ texts nodes all.
          All-same (EnclosingFits texts) c.push.new.self.items _ c.in_ok-push.ensures.items
          (All-push (EnclosingFits texts) old _ (c.loop-level.invariant.fit texts nodes all) (level_fits texts levels i l c.loop-level-test.true c.level-item.is all));
    }

pub returns-clause-scope : goal.returns-clause-scope
returns-clause-scope c =
    sym (ap (scope_in (scope_over (request_view c.args.request.now) c.loop-level.enclosing.items)) (drop_all c.loop-level.level-index c.args.levels.now c.loop-level-test.false))
    ∙ c.loop-level.invariant.scope

pub returns-clause-fit : goal.returns-clause-fit
returns-clause-fit c = c.loop-level.invariant.fit
