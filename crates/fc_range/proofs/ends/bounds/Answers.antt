use Rattle.std.proofs.Common.{◌≡◌, ◌++◌, ◌+◌, ◌-◌, ◌∙◌, ℤ, [], ◌∷◌, map, suc, ap, ap₂, w64, arith, rules, append_assoc}
use Rattle.std.proofs.lemmas.Int.{to_z-of_z}
use Rattle.std.specs.List.{range_with_len}
use Rattle.std.proofs.lemmas.List.{map-append}
use Rattle.fc_facet.specs.KindView.{range_view}
use Rattle.fc_spec.specs.requests.Gaps.{gap_count}
use Rattle.fc_spec.specs.words.Lists.{numbers_below}
use Rattle.fc_range.specs.EndsView.{ends_of, ends_view}
use Rattle.fc_range.proofs.ends.bounds.Goals as goal

pub loop-number-preserved : goal.loop-number-preserved
loop-number-preserved c =
    let g = range_view c.args.range.now in
    let n = c.loop-number.number in
    let m = gap_count g - (n + 1) in
    let e : gap_count g - n ≡ suc m = omega (arith, c.gaps-number-end.ensures) in
    let inv : map ends_view c.loop-number.ends.items ++ map (ends_of g) (n ∷ range_with_len (n + 1) m) ≡ map (ends_of g) (numbers_below (gap_count g)) = rw e at c.loop-number.invariant in
    let pushed : map ends_view c.push.new.self.items ≡ map ends_view c.loop-number.ends.items ++ ends_of g n ∷ [] =
    ap (map ends_view) c.in_ok-push.ensures.items ∙ map-append ends_view c.loop-number.ends.items _ ∙ ap (λ (x : ℤ × ℤ). map ends_view c.loop-number.ends.items ++ x ∷ []) (ap₂ (λ (x y : ℤ). (x, y))
    (to_z-of_z w64 c.low_end.result (search rules) ∙ c.low_end.ensures) (to_z-of_z w64 c.high_end.result (search rules) ∙ c.high_end.ensures)) in
    ap (λ l. l ++ map (ends_of g) (range_with_len (n + 1) m)) pushed ∙ append_assoc (map ends_view c.loop-number.ends.items) (ends_of g n ∷ []) (map (ends_of g) (range_with_len (n + 1) m)) ∙ inv
