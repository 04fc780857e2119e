use Rattle.std.proofs.Common.{◌≡◌, ◌≤◌, ◌-◌, length, true}
use Rattle.std.specs.List.{AllWithin}
use Rattle.std.specs.Ordering.{int_eq}
use Rattle.fc_count.proofs.runs.run_length.Given as goal

-- those that were read have the number of the first
abbrev pub invariant-loop-end : goal.invariant-loop-end
invariant-loop-end l = record {
  within : l.end ≤ length l.others;
  run : AllWithin (λ c. int_eq c.number l.first.number ≡ true) l.others 0 l.end;
}

abbrev pub decreases-loop-end : goal.decreases-loop-end
decreases-loop-end l = length l.others - l.end
