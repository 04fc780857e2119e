-- Integers between two ends, some of which are held.
use Rattle.std.proofs.Common.{◌≡◌, ℤ, ◌≤ℤ◌, Bool, true, false, ◌&&◌, arith}
use Rattle.std.proofs.lemmas.Int.{ints}
use Rattle.fc_spec.specs.requests.Gaps.{lies_in}
use Rattle.fc_range.specs.HeldEnds.{is_alone, is_from, is_to}

-- one number alone
pub lies_alone : (low high z : ℤ) (with_low with_high : Bool) → is_alone low with_low high with_high ≡ true → lies_in low with_low high with_high z ≡ (is_from low true z && is_to high true z)
lies_alone low high z true true same = grind (arith, ints)
lies_alone low high z true false same = grind (arith, ints)
lies_alone low high z false true same = grind (arith, ints)
lies_alone low high z false false same = grind (arith, ints)

-- else what is on the right side of both
pub lies_both : (low high z : ℤ) (with_low with_high : Bool) → low ≤ℤ high → is_alone low with_low high with_high ≡ false
    → lies_in low with_low high with_high z ≡ (is_from low with_low z && is_to high with_high z)
lies_both low high z true true up apart = grind (arith, ints)
lies_both low high z true false up apart = grind (arith, ints)
lies_both low high z false true up apart = grind (arith, ints)
lies_both low high z false false up apart = grind (arith, ints)
