use Rattle.std.proofs.Common.{◌++◌, ◌+◌, ◌∷◌, [], ◌∙◌, sym, ap, subst, IsTrue, drop}
use Rattle.fc_spec.specs.laws.LacksLaws.{names_keys}
use Rattle.fc_spec.specs.messages.Message.{Way}
use Rattle.fc_partial.specs.View.{key_view}
use Rattle.fc_request.specs.NodeView.{nodes_view}
use Rattle.fc_refine.specs.AskView.{step_view, way_view}
use Rattle.fc_jobs.specs.Walked.{nodes_from}
use Rattle.fc_units.proofs.AskedNodes.{split_named, way_from}
use Rattle.fc_units.proofs.asked.nodes_along.Goals as goal

pub loop-step-preserved : goal.loop-step-preserved
loop-step-preserved c =
    let first = way_from c.args.way.now c.loop-step.step-index c.step-item.result c.loop-step-test.true c.step-item.is in
    let last : Way = record { node = c.args.node; key = key_view c.args.key.now } ∷ [] in
    let rest = way_view (drop (c.loop-step.step-index + 1) c.args.way.now) in
    record {
      named = subst (λ ns. IsTrue (names_keys ns (rest ++ last))) (sym c.nodes_inside-inside.ensures.there)
          (split_named (nodes_view c.loop-step.inside.now) (step_view c.step-item.result) (rest ++ last)
          (subst (λ (w : Way). IsTrue (names_keys (nodes_view c.loop-step.inside.now) (w ++ last))) first c.loop-step.invariant.named)).1;
      there = ap (λ ns. nodes_from ns rest) c.nodes_inside-inside.ensures.there ∙ ap (nodes_from (nodes_view c.loop-step.inside.now)) (sym first) ∙ c.loop-step.invariant.there;
      valid = λ s v. c.nodes_inside-inside.ensures.valid s (c.loop-step.invariant.valid s v);
    }
