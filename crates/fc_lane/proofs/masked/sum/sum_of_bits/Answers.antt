use Rattle.std.proofs.Common.{◌≡◌, ◌∙◌, ◌-◌, pos, ap, length, get_or, [], ◌∷◌, arith, bit_and, sum_by}
use Rattle.std.specs.Prelude.{nat_abs}
use Rattle.std.specs.Int.Count.{count_trailing_zeros}
use Rattle.std.proofs.lemmas.Int.{ints}
use Rattle.std.proofs.lemmas.List.Sums.{sum_by-cons}
use Rattle.fc_spec.specs.documents.Bits.{first_bits}
use Rattle.fc_spec.specs.requests.Statistics.{total_of}
use Rattle.fc_lane.specs.Masked.{masked}
use Rattle.fc_lane.proofs.MaskedWords.{masked-next, masked-zero, lowest_within, fewer_bits}
use Rattle.fc_lane.proofs.PickedTotals.{fewer_picked}
use Rattle.fc_lane.proofs.masked.sum.sum_of_bits.Goals as goal

pub loop-left-init : goal.loop-left-init
loop-left-init c =
    let part = c.args.part.now in
    record {
      total = omega (arith, ints);
      size = omega (arith, c.requires.small, fewer_picked nat_abs (first_bits (length part) (c.args.word ∷ [])) part);
      within = c.requires.within;
    }

pub bounds-part-left : goal.bounds-part-left
bounds-part-left c = lowest_within 64 (length c.args.part.now) c.loop-left.left c.requires.few (omega arith) c.loop-left.invariant.within

pub overflow_add-sum : goal.overflow_add-sum
overflow_add-sum c =
    let part = c.args.part.now in
    let left = c.loop-left.left in
    let x = get_or part (count_trailing_zeros 64 left) (pos 0) in
    let rest = masked (bit_and left (left - 1) ∷ []) part in
    let e : masked (left ∷ []) part ≡ x ∷ rest = masked-next left part (pos 0) c.requires.few (omega arith) c.loop-left.invariant.within in
    let s = ap (sum_by nat_abs) e ∙ sum_by-cons nat_abs x rest in
    omega (arith, ints)

pub loop-left-preserved : goal.loop-left-preserved
loop-left-preserved c =
    let part = c.args.part.now in
    let left = c.loop-left.left in
    let x = get_or part (count_trailing_zeros 64 left) (pos 0) in
    let rest = masked (bit_and left (left - 1) ∷ []) part in
    let e : masked (left ∷ []) part ≡ x ∷ rest = masked-next left part (pos 0) c.requires.few (omega arith) c.loop-left.invariant.within in
    let s = ap (sum_by nat_abs) e ∙ sum_by-cons nat_abs x rest in
    let t = ap total_of e in
    record {
      total = omega (arith, ints);
      size = omega (arith, ints);
      within = omega (arith, fewer_bits left (omega arith));
    }

pub returns : goal.returns
returns c =
    let part = c.args.part.now in
    let none : masked (c.loop-left.left ∷ []) part ≡ [] = ap (λ w. masked (w ∷ []) part) c.loop-left-test.false ∙ masked-zero part c.requires.few in
    let t = ap total_of none in
    omega (arith, ints)
