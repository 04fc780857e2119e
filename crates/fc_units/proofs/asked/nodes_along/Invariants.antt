use Rattle.std.proofs.Common.{◌≡◌, ◌++◌, ◌∷◌, [], drop, IsTrue}
use Rattle.fc_spec.specs.documents.Schema.{Schema}
use Rattle.fc_spec.specs.laws.LacksLaws.{names_keys}
use Rattle.fc_partial.specs.View.{key_view}
use Rattle.fc_request.specs.NodeView.{nodes_view}
use Rattle.fc_refine.specs.AskView.{way_view}
use Rattle.fc_levels.specs.Steps.{AreValid}
use Rattle.fc_jobs.specs.Walked.{nodes_from}
use Rattle.fc_units.proofs.asked.nodes_along.Given as goal

abbrev pub invariant-loop-step : goal.invariant-loop-step
invariant-loop-step l = record {
  named : IsTrue (names_keys (nodes_view l.inside) (way_view (drop l.step-index l.way) ++ record { node = l.node; key = key_view l.key } ∷ []));
  there : nodes_from (nodes_view l.inside) (way_view (drop l.step-index l.way)) ≡ nodes_from (nodes_view l.nodes) (way_view l.way);
  valid : (s : Schema) → AreValid s (nodes_view l.nodes) → AreValid s (nodes_view l.inside);
}
