use Rattle.std.proofs.Common.{◌≡◌, drop}
use Rattle.fc_refine.specs.AskView.{way_view}
use Rattle.fc_units.proofs.asked.same_way.Given as goal

abbrev pub invariant-loop-at : goal.invariant-loop-at
invariant-loop-at l = way_view (drop l.at l.one) ≡ way_view (drop l.at l.other) → way_view l.one ≡ way_view l.other
