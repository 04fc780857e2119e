use Rattle.std.proofs.Common.{◌≡◌, drop}
use Rattle.fc_spec.specs.requests.Statistics as definition
use Rattle.fc_partial.proofs.document.greatest_of.Given as goal

abbrev pub invariant-loop-value : goal.invariant-loop-value
invariant-loop-value l = definition.greater l.greatest (definition.greatest_of (drop l.value-index l.values)) ≡ definition.greatest_of l.values
