use Rattle.std.proofs.Common.{◌≡◌, take, false}
use Rattle.std.specs.List.{list_any}
use Rattle.fc_docset.specs.Positions.{contains}
use Rattle.fc_column.proofs.text_merger.has_one.Given as goal

abbrev pub invariant-loop-at : goal.invariant-loop-at
invariant-loop-at l = list_any (contains l.live) (take l.at-index l.positions) ≡ false
