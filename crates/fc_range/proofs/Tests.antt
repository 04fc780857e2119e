-- Tests of numbers.
use Rattle.std.proofs.Common.{◌≡◌, ℕ, ◌+◌, ◌<◌, ◌≤◌, true, false, arith}
use Rattle.std.specs.Prelude.{nat_le, nat_lt}
use Rattle.std.proofs.lemmas.Bool.Decides.{nat_tests}

pub below_is : (i n : ℕ) → i < n → nat_lt i n ≡ true
below_is i n h = grind (arith, nat_tests)

pub is_below : (i n : ℕ) → nat_lt i n ≡ true → i < n
is_below i n e = grind (arith, nat_tests)

pub past_is : (i n : ℕ) → n ≤ i → nat_lt i n ≡ false
past_is i n h = grind (arith, nat_tests)

pub below_more : (i n : ℕ) → (i ≡ n → ⊥) → nat_lt i (n + 1) ≡ nat_lt i n
below_more i n other = grind (arith, nat_tests)

pub from_is : (m i : ℕ) → m ≤ i → nat_le m i ≡ true
from_is m i h = grind (arith, nat_tests)

pub before_is : (m i : ℕ) → i < m → nat_le m i ≡ false
before_is m i h = grind (arith, nat_tests)
