-- Which trees are well formed, and how deep they nest. Guide: Standard Query Parser, "Grouping Clauses within a Field".
use Rattle.std.specs.Prelude.{ℕ, suc, ◌≤◌, max, Bool, false, true, None, Some, IsTrue}
use Rattle.fc_spec.specs.queries.QueryTrees.{Atom, plain, everything, nested, Group, no_more, clause}

abbrev mutual
  -- a value without a name stands only inside the group of a field
  pub IsAtom : (in_field : Bool) → Atom → Type 0
  IsAtom in_field (plain None v) = IsTrue in_field
  IsAtom in_field (plain (Some n) v) = Unit {0}
  IsAtom in_field everything = Unit {0}
  IsAtom in_field (nested None g) = IsGroup in_field g
  IsAtom in_field (nested (Some n) g) = IsGroup true g

  -- a group has a clause, and no operator stands before the first one
  pub IsGroup : (in_field : Bool) → Group → Type 0
  IsGroup in_field no_more = ⊥
  IsGroup in_field (clause None s a g) = IsAtom in_field a × AreClauses in_field g
  IsGroup in_field (clause (Some o) s a g) = ⊥

  pub AreClauses : (in_field : Bool) → Group → Type 0
  AreClauses in_field no_more = Unit {0}
  AreClauses in_field (clause o s a g) = IsAtom in_field a × AreClauses in_field g

abbrev mutual
  -- how many parentheses are open at once
  pub atom_nesting : Atom → ℕ
  atom_nesting (plain n v) = 0
  atom_nesting everything = 0
  atom_nesting (nested n g) = suc (nesting g)

  pub nesting : Group → ℕ
  nesting no_more = 0
  nesting (clause o s a g) = max (atom_nesting a) (nesting g)

-- the tree of a text: at most 64 parentheses are open at once
abbrev pub IsTree : Group → Type 0
IsTree g = IsGroup false g × (nesting g ≤ 64)
