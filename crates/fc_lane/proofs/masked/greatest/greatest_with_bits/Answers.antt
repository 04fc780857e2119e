use Rattle.std.proofs.Common.{◌≡◌, ◌∙◌, ◌-◌, Some, pos, sym, ap, length, get_or, [], ◌∷◌, arith, bit_and, rules, w64, to_z, to_z-of_z}
use Rattle.std.specs.Int.{int_max}
use Rattle.std.specs.Prelude.{FitsSigned}
use Rattle.std.specs.Int.Count.{count_trailing_zeros}
use Rattle.fc_spec.specs.requests.Statistics.{greatest_of, greater}
use Rattle.fc_lane.specs.Masked.{masked}
use Rattle.fc_lane.proofs.MaskedWords.{masked-next, masked-zero, lowest_within, fewer_bits}
use Rattle.fc_lane.proofs.PickedExtremes.{greater_more}
use Rattle.fc_lane.proofs.masked.greatest.greatest_with_bits.Goals as goal

pub bounds-part-left : goal.bounds-part-left
bounds-part-left c = lowest_within 64 (length c.args.part.now) c.loop-left.left c.requires.few (omega arith) c.loop-left.invariant.within

pub loop-left-preserved : goal.loop-left-preserved
loop-left-preserved c =
    let part = c.args.part.now in
    let left = c.loop-left.left in
    let x = get_or part (count_trailing_zeros 64 left) (pos 0) in
    let rest = masked (bit_and left (left - 1) ∷ []) part in
    let e : masked (left ∷ []) part ≡ x ∷ rest = masked-next left part (pos 0) c.requires.few (omega arith) c.loop-left.invariant.within in
    let fits : FitsSigned w64 x = search rules in
    let greatest_fits : FitsSigned w64 c.max-greatest.result = search rules in
    let greatest = c.max-greatest.ensures.value ∙ ap (int_max (to_z w64 c.loop-left.greatest-bits)) (to_z-of_z fits) in
    record {
      greatest = ap (λ z. greater (Some z) (greatest_of rest)) (to_z-of_z greatest_fits ∙ greatest) ∙ greater_more (to_z w64 c.loop-left.greatest-bits) x rest
          ∙ ap (λ l. greater (Some (to_z w64 c.loop-left.greatest-bits)) (greatest_of l)) (sym e) ∙ c.loop-left.invariant.greatest;
      within = omega (arith, fewer_bits left (omega arith));
    }

pub returns : goal.returns
returns c =
    let part = c.args.part.now in
    let none : masked (c.loop-left.left ∷ []) part ≡ [] = ap (λ w. masked (w ∷ []) part) c.loop-left-test.false ∙ masked-zero part c.requires.few in
    sym (ap (λ l. greater (Some (to_z w64 c.loop-left.greatest-bits)) (greatest_of l)) none) ∙ c.loop-left.invariant.greatest ∙ ap (λ z. greater (Some z) (greatest_of (masked (c.args.word ∷ []) part))) (to_z-of_z c.ranges.start)
