use Rattle.std.proofs.Common.{◌∙◌, ◌≤◌, pos, length, refl, arith, lit<}
use Rattle.std.proofs.lemmas.Int.{ints}
use Rattle.std.proofs.lemmas.List.{take_all}
use Rattle.fc_lane.proofs.LaneTotals.{total_of_lanes}
use Rattle.fc_lane.proofs.masked.sum.sum_of_all.Goals as goal

pub returns : goal.returns
returns c =
    let values = c.args.values.now in
    let all : length values ≤ 64 = omega arith in
    rw (take_all 64 values all) (total_of_lanes _ (λ a b. refl) 0 (pos 0) values (lit< tt) refl (omega (arith, c.requires.small)) ∙ omega (arith, ints))
