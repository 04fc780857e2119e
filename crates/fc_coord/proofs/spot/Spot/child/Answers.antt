use Rattle.std.proofs.Common.{sym, subst}
use Rattle.fc_partial.specs.View.{key_view}
use Rattle.fc_told.specs.Telling.{TellersFit}
use Rattle.fc_coord.specs.Spots.{tree_at}
use Rattle.fc_coord.proofs.TellerSums.{child_fits}
use Rattle.fc_coord.proofs.spot.Spot.child.Goals as goal

pub invariant_of-result : goal.invariant_of-result
invariant_of-result c =
    let here = c.args.self.now in
    record { fit = subst TellersFit (sym c.child_of-place.ensures) (child_fits (record { node = c.args.node; key = key_view c.args.key.now }) (tree_at here.place) here.fit) }
