-- The member of a set of numbers that is next to a number. The set is the numbers that pass a test.
use Rattle.std.specs.Prelude.{◌≡◌, ℕ, ◌<◌, ◌≤◌, Bool, true, false, ◌==◌}
use Rattle.std.specs.Int.{bit_at}

-- the first member from a number on
pub record IsNextFrom (has : ℕ → Bool) (from at : ℕ) : Type 0 where
  pub behind : from ≤ at
  pub member : has at ≡ true
  pub none_between : (k : ℕ) → from ≤ k → k < at → has k ≡ false

abbrev pub HasNoneFrom : (ℕ → Bool) → ℕ → Type 0
HasNoneFrom has from = (k : ℕ) → from ≤ k → has k ≡ false

-- the last member up to a number
pub record IsLastUpTo (has : ℕ → Bool) (to at : ℕ) : Type 0 where
  pub before : at ≤ to
  pub member : has at ≡ true
  pub none_between : (k : ℕ) → at < k → k ≤ to → has k ≡ false

abbrev pub HasNoneUpTo : (ℕ → Bool) → ℕ → Type 0
HasNoneUpTo has to = (k : ℕ) → k ≤ to → has k ≡ false

-- the bit of a word is 1
abbrev pub is_one : ℕ → ℕ → Bool
is_one word i = bit_at word i == 1
