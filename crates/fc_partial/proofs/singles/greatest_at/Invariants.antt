use Rattle.std.proofs.Common.{◌≡◌, drop, Some}
use Rattle.fc_spec.specs.requests.Statistics as definition
use Rattle.fc_partial.specs.Singles.{integers_at}
use Rattle.fc_partial.proofs.singles.greatest_at.Given as goal

abbrev pub invariant-loop-at : goal.invariant-loop-at
invariant-loop-at l = definition.greater (Some l.greatest) (definition.greatest_of (integers_at l.values (drop l.at-index l.others))) ≡ definition.greatest_of (integers_at l.values l.positions)
