use Rattle.std.proofs.Common.{◌≡◌, drop}
use Rattle.fc_spec.specs.requests.Statistics as definition
use Rattle.fc_partial.proofs.document.least_of.Given as goal

abbrev pub invariant-loop-value : goal.invariant-loop-value
invariant-loop-value l = definition.lesser l.least (definition.least_of (drop l.value-index l.values)) ≡ definition.least_of l.values
