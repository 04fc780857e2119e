use Rattle.std.proofs.Common.{◌≡◌, ◌≤◌, ◌+◌, ◌-◌, length, max}
use Rattle.fc_told.specs.Adding.{changed_fork}
use Rattle.fc_told.specs.Parts.{forks_view}
use Rattle.fc_told.specs.Trees.{Branches}
use Rattle.fc_told.proofs.adding.make_room.Given as goal

abbrev pub invariant-loop-alloc : goal.invariant-loop-alloc
invariant-loop-alloc l = record {
  same : (f : Branches → Branches) → changed_fork l.place f (forks_view l.told.items) ≡ changed_fork l.place f (forks_view l.fn.told.items);
  no_more : length l.told.items ≤ max (length l.fn.told.items) (l.place + 1);
}

abbrev pub decreases-loop-alloc : goal.decreases-loop-alloc
decreases-loop-alloc l = l.place + 1 - length l.told.items
