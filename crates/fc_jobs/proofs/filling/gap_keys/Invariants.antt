use Rattle.std.proofs.Common.{◌≡◌, ◌++◌, ◌-◌, map}
use Rattle.std.specs.List.{range_with_len}
use Rattle.fc_partial.specs.View.{key_view}
use Rattle.fc_spec.specs.requests.Buckets.{gap}
use Rattle.fc_spec.specs.words.Lists.{numbers_below}
use Rattle.fc_jobs.proofs.filling.gap_keys.Given as goal

abbrev pub invariant-loop-gap : goal.invariant-loop-gap
invariant-loop-gap l = map key_view l.keys.items ++ map gap (range_with_len l.gap (l.gaps - l.gap)) ≡ map gap (numbers_below l.gaps)
