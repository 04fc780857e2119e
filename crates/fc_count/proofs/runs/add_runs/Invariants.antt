use Rattle.std.proofs.Common.{◌≡◌, ◌<◌, length, All}
use Rattle.fc_count.specs.Rows.{Rise}
use Rattle.fc_count.proofs.RunParts.{IsAdded}
use Rattle.fc_count.proofs.runs.add_runs.Given as goal

-- numbers rise in what is left, and what stands before it was added
abbrev pub invariant-loop-first : goal.invariant-loop-first
invariant-loop-first g l = record {
  rising : Rise l.rest;
  there : All (λ e. e.row < length l.positions.items) l.rest;
  added : IsAdded l.segment.blocks l.positions.items (g.K.Keys.key l.keys) l.initial.rest l.rest l.fn.into l.into;
  one : l.one.count ≡ 1;
}

abbrev pub decreases-loop-first : goal.decreases-loop-first
decreases-loop-first g l = length l.rest
