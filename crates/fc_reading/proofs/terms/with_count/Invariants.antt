use Rattle.std.proofs.Common.{◌≡◌, ◌++◌}
use Rattle.std.specs.Prelude.{nat_le}
use Rattle.std.specs.List.{filter}
use Rattle.fc_reading.proofs.terms.with_count.Given as goal

abbrev pub invariant-loop-candidate : goal.invariant-loop-candidate
invariant-loop-candidate g l = l.kept.items ++ filter (λ c. nat_le l.least c.stats.count) l.candidate-iterator.rest.items ≡ filter (λ c. nat_le l.least c.stats.count) l.fn.candidates.items
