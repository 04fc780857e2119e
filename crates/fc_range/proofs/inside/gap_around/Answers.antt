use Rattle.std.proofs.Common.{◌≡◌, ◌∙◌, ◌+◌, ◌<◌, ◌/◌, ◌%◌, ◌==◌, ◌&&◌, false, pos, ◌+ℤ◌, ◌-ℤ◌, ap, sym, subst, w64, FitsSigned, unsigned_abs, rules}
use Rattle.std.proofs.lemmas.Bool.{ne_eqb}
use Rattle.std.proofs.lemmas.Int.{to_z-of_z}
use Rattle.std.proofs.Math.Bool.{and-false}
use Rattle.fc_spec.specs.requests.Gaps.{gap_count, in_gap, is_last_gap}
use Rattle.fc_facet.specs.KindView.{range_view}
use Rattle.fc_range.proofs.NearGaps.{distance}
use Rattle.fc_range.proofs.GapInside.{gap_alone}
use Rattle.fc_range.proofs.inside.gap_around.Goals as goal
use Rattle.fc_range.proofs.inside.gap_around.Goals.{else-range-via-then-range+else-number-from-2, else-range-via-else-range}

pub returns-clause-alone : goal.returns-clause-alone
returns-clause-alone c =
    let g = range_view c.args.range.now in
    let x = c.args.x in
    let fits : FitsSigned w64 c.args.range.now.gap = search rules in
    let size : c.unsigned_abs-step.result ≡ unsigned_abs g.gap = c.unsigned_abs-step.ensures.value ∙ ap unsigned_abs (to_z-of_z w64 c.args.range.now.gap fits) in
    let n = c.abs_diff-apart.result in
    let start_fits : FitsSigned w64 c.args.range.now.start = search rules in
    let far : n ≡ unsigned_abs (x -ℤ g.start) = c.abs_diff-apart.ensures ∙ (λ j. unsigned_abs (to_z-of_z w64 x c.ranges.x j -ℤ to_z-of_z w64 c.args.range.now.start start_fits j)) in
    let away = distance g.start x c.requires.not_below ∙ ap (λ m. g.start +ℤ pos m) (sym far) in
    let q = n / c.unsigned_abs-step.result in
    let rest : n % c.unsigned_abs-step.result ≡ 0 → ⊥ = search rules in
    let there : q < gap_count g = let all = c.requires.gaps in search rules in
    let whole : (g.hardend && is_last_gap g q) ≡ false = elim c.else-range.branch [
      | else-range-via-then-range+else-number-from-2 w ↦
          let more : q + 1 ≡ c.args.gaps → ⊥ = search rules in
          ap (λ b. g.hardend && b) (ne_eqb (gap_count g) (q + 1) (λ e. more (sym (c.requires.gaps ∙ e)))) ∙ and-false g.hardend
      | else-range-via-else-range w ↦ ap (λ b. b && is_last_gap g q) w.if-range.false
    ] in
    λ i. subst (λ w. in_gap g i x ≡ (i == n / w)) (sym size)
    (gap_alone g c.requires.few x n away (subst (λ w. n % w ≡ 0 → ⊥) size rest) (subst (λ w. n / w < gap_count g) size there) (subst (λ w. (g.hardend && is_last_gap g (n / w)) ≡ false) size whole) i)
