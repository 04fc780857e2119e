use Rattle.std.proofs.Common.{◌≡◌, ◌-◌, map}
use Rattle.fc_partial.specs.View.{stat_value_view}
use Rattle.fc_wire.specs.FieldReading.{many, value_at}
use Rattle.fc_wire.proofs.Loop.{with_front}
use Rattle.fc_wire.proofs.reading.values_at.Given as goal

-- with those that are still read they are all
abbrev pub invariant-loop : goal.invariant-loop
invariant-loop l = with_front (map stat_value_view l.values.items) (many value_at (l.count - l.counter) l.rest) ≡ many value_at l.count l.bytes
