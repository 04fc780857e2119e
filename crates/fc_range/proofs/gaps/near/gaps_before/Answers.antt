use Rattle.std.proofs.Common.{◌≡◌, ◌∙◌, ◌+◌, ◌/◌, ◌⊎◌, pos, ◌+ℤ◌, ◌-ℤ◌, ap, sym, subst, w64, FitsSigned, unsigned_abs, rules}
use Rattle.std.proofs.lemmas.Int.{to_z-of_z}
use Rattle.fc_facet.specs.KindView.{range_view}
use Rattle.fc_range.proofs.NearGaps.{distance, near_gaps}
use Rattle.fc_range.proofs.gaps.near.gaps_before.Goals as goal

pub returns : goal.returns
returns c = λ i h.
    let g = range_view c.args.range.now in
    let x = c.args.x in
    let fits : FitsSigned w64 c.args.range.now.gap = search rules in
    let size : c.unsigned_abs.result ≡ unsigned_abs g.gap = c.unsigned_abs.ensures.value ∙ ap unsigned_abs (to_z-of_z w64 c.args.range.now.gap fits) in
    let n = c.abs_diff.result in
    let start_fits : FitsSigned w64 c.args.range.now.start = search rules in
    let far : n ≡ unsigned_abs (x -ℤ g.start) = c.abs_diff.ensures ∙ (λ j. unsigned_abs (to_z-of_z w64 x c.ranges.x j -ℤ to_z-of_z w64 c.args.range.now.start start_fits j)) in
    let away = distance g.start x c.requires.not_below ∙ ap (λ m. g.start +ℤ pos m) (sym far) in
    subst (λ w. (i ≡ n / w) ⊎ (i + 1 ≡ n / w)) (sym size) (near_gaps g c.requires.few i x n away h)
