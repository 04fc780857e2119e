-- Queries. Guide: Standard Query Parser.
use Rattle.std.specs.Prelude.{ℕ}
use Rattle.fc_spec.specs.documents.Val.{Val}

-- an end of a range
pub data Bound : Type 0 where
  unbounded : Bound
  including : Val → Bound
  excluding : Val → Bound

-- a required, forbidden or optional clause
pub data Need : Type 0 where
  must : Need
  must_not : Need
  may : Need

-- a field stands by its number
mutual
  pub data Query : Type 0 where
    all : Query
    has : ℕ → Query
    is : ℕ → Val → Query
    between : ℕ → Bound → Bound → Query
    group : Clauses → Query

  pub data Clauses : Type 0 where
    no_clauses : Clauses
    clause : Need → Query → Clauses → Clauses
