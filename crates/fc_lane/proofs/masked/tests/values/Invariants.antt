use Rattle.std.proofs.Common.{◌≡◌, ◌≤◌, ◌*◌, length, sum_by}
use Rattle.std.specs.Prelude.{nat_abs}
use Rattle.fc_lane.proofs.masked.tests.values.Given as goal

abbrev pub invariant-loop-at : goal.invariant-loop-at
invariant-loop-at l = record { long : length l.values ≡ 129; small : sum_by nat_abs l.values ≤ 50 * l.at }
