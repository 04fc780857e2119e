use Rattle.std.proofs.Common.{◌≡◌, ◌+◌, ◌++◌, false, length, map, take, get_or}
use Rattle.fc_docset.specs.Positions.{positions}
use Rattle.fc_segment.specs.Begun.{begun}
use Rattle.fc_segment.proofs.merged_parents.add_live.Given as goal

abbrev pub invariant-loop-at : goal.invariant-loop-at
invariant-loop-at l = record {
  set : l.set ≡ begun (length l.fn.set) (take l.from l.fn.set ++ map (λ at. get_or l.parents at false) l.yielded);
  next : l.next ≡ l.from + length l.yielded;
  left : l.yielded ++ l.at-iterator ≡ positions l.live;
}
