-- A document that a number counts.
use Rattle.std.specs.Prelude.{ℕ, ℤ}

-- the number, and the document's position
pub record Counting : Type 0 where
  pub number : ℤ
  pub at : ℕ
