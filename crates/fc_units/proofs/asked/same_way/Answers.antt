use Rattle.std.proofs.Common.{rules, ◌+◌, ◌∷◌, sym, ◌∙◌, ap}
use Rattle.fc_refine.specs.AskView.{step_view, way_view}
use Rattle.fc_units.proofs.AskedNodes.{way_from}
use Rattle.fc_units.proofs.asked.same_way.Goals as goal

pub loop-at-preserved : goal.loop-at-preserved
loop-at-preserved c e =
    let one = c.args.one.now in
    let other = c.args.other.now in
    let i = c.loop-at.at in
    let a = way_from one i c.index-one-at.result c.loop-at-test.true c.index-one-at.is in
    let b = way_from other i c.index-other-at.result (search rules) c.index-other-at.is in
    c.loop-at.invariant (a ∙ ap (λ v. v ∷ way_view (lib.ListN.drop (i + 1) one)) (search rules) ∙ ap (λ l. step_view c.index-other-at.result ∷ l) e ∙ sym b)
