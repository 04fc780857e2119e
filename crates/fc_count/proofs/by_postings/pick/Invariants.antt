use Rattle.std.proofs.Common.{◌≡◌, take}
use Rattle.std.specs.List.{filter}
use Rattle.fc_docset.specs.Positions.{contains}
use Rattle.fc_count.proofs.by_postings.pick.Given as goal

abbrev pub invariant-loop-at : goal.invariant-loop-at
invariant-loop-at l = l.picked.items ≡ filter (contains l.docs) (take l.at-index l.others)
