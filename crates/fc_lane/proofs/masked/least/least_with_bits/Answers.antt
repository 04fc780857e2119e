use Rattle.std.proofs.Common.{◌≡◌, ◌∙◌, ◌-◌, Some, pos, sym, ap, length, get_or, [], ◌∷◌, arith, bit_and, rules, w64, to_z, to_z-of_z}
use Rattle.std.specs.Int.{int_min}
use Rattle.std.specs.Prelude.{FitsSigned}
use Rattle.std.specs.Int.Count.{count_trailing_zeros}
use Rattle.fc_spec.specs.requests.Statistics.{least_of, lesser}
use Rattle.fc_lane.specs.Masked.{masked}
use Rattle.fc_lane.proofs.MaskedWords.{masked-next, masked-zero, lowest_within, fewer_bits}
use Rattle.fc_lane.proofs.PickedExtremes.{lesser_more}
use Rattle.fc_lane.proofs.masked.least.least_with_bits.Goals as goal

pub bounds-part-left : goal.bounds-part-left
bounds-part-left c = lowest_within 64 (length c.args.part.now) c.loop-left.left c.requires.few (omega arith) c.loop-left.invariant.within

pub loop-left-preserved : goal.loop-left-preserved
loop-left-preserved c =
    let part = c.args.part.now in
    let left = c.loop-left.left in
    let x = get_or part (count_trailing_zeros 64 left) (pos 0) in
    let rest = masked (bit_and left (left - 1) ∷ []) part in
    let e : masked (left ∷ []) part ≡ x ∷ rest = masked-next left part (pos 0) c.requires.few (omega arith) c.loop-left.invariant.within in
    let fits : FitsSigned w64 x = search rules in
    let least_fits : FitsSigned w64 c.min-least.result = search rules in
    let least = c.min-least.ensures.value ∙ ap (int_min (to_z w64 c.loop-left.least-bits)) (to_z-of_z fits) in
    record {
      least = ap (λ z. lesser (Some z) (least_of rest)) (to_z-of_z least_fits ∙ least) ∙ lesser_more (to_z w64 c.loop-left.least-bits) x rest
          ∙ ap (λ l. lesser (Some (to_z w64 c.loop-left.least-bits)) (least_of l)) (sym e) ∙ c.loop-left.invariant.least;
      within = omega (arith, fewer_bits left (omega arith));
    }

pub returns : goal.returns
returns c =
    let part = c.args.part.now in
    let none : masked (c.loop-left.left ∷ []) part ≡ [] = ap (λ w. masked (w ∷ []) part) c.loop-left-test.false ∙ masked-zero part c.requires.few in
    sym (ap (λ l. lesser (Some (to_z w64 c.loop-left.least-bits)) (least_of l)) none) ∙ c.loop-left.invariant.least ∙ ap (λ z. lesser (Some z) (least_of (masked (c.args.word ∷ []) part))) (to_z-of_z c.ranges.start)
