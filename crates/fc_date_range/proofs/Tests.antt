-- Tests of numbers.
use Rattle.std.proofs.Common.{◌≡◌, ℕ, ◌≤◌, true, not, arith}
use Rattle.std.specs.Prelude.{nat_le, nat_lt}
use Rattle.std.proofs.lemmas.Bool.Decides.{nat_tests}

pub is_from : (m i : ℕ) → nat_le m i ≡ true → m ≤ i
is_from m i e = grind (arith, nat_tests)

pub below_not : (i n : ℕ) → nat_lt i n ≡ not (nat_le n i)
below_not i n = grind (arith, nat_tests)
