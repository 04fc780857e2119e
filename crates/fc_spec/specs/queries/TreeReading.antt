-- The tree of a row of tokens, read from left to right: what is read, and what is left. Guide: Standard Query Parser.
use Rattle.std.specs.Prelude.{ℕ, zero, suc, List, [], ◌∷◌, length, Bool, true, false, Option, None, Some, option_map, if◌then◌else◌}
use Rattle.fc_spec.specs.documents.Val.{Text}
use Rattle.fc_spec.specs.words.Options.{◌>>=◌}
use Rattle.fc_spec.specs.queries.QueryTokens.{Value, word, quoted, range, star, Sign, Operator, Token, value, sign, operator, opening, closing, colon}
use Rattle.fc_spec.specs.queries.QueryTrees.{Atom, plain, everything, nested, Group, no_more, clause}

-- a row of tokens
abbrev pub Row : Type 0
Row = List Token

-- what reads the group behind a parenthesis, inside a field's group or not
abbrev pub Reader : Type 0
Reader = Bool → Row → Option (Group × Row)

abbrev pub sign_at : Row → Option Sign × Row
sign_at (sign s ∷ ts) = (Some s, ts)
sign_at ts = (None, ts)

abbrev pub operator_at : Row → Option Operator × Row
operator_at (operator o ∷ ts) = (Some o, ts)
operator_at ts = (None, ts)

abbrev pub past_closing : Row → Option Row
past_closing (closing ∷ ts) = Some ts
past_closing ts = None

-- behind `(`
unfoldable pub nested_at : Reader → Option Text → Bool → Row → Option (Atom × Row)
nested_at deeper name in_field ts = do
  g ← deeper in_field ts
  left ← past_closing g.1
  Some (nested name g.0, left)

-- behind a name and its colon
unfoldable pub named_at : Reader → Text → Row → Option (Atom × Row)
named_at deeper name (value v ∷ ts) = Some (plain (Some name) v, ts)
named_at deeper name (opening ∷ ts) = nested_at deeper (Some name) true ts
named_at deeper name ts = None

-- behind a star and a colon
unfoldable pub everything_at : Row → Option (Atom × Row)
everything_at (value star ∷ ts) = Some (everything, ts)
everything_at ts = None

-- behind a value and a colon
unfoldable pub behind_colon_at : Reader → Value → Row → Option (Atom × Row)
behind_colon_at deeper (word name) ts = named_at deeper name ts
behind_colon_at deeper (quoted t) ts = None
behind_colon_at deeper (range r) ts = None
behind_colon_at deeper star ts = everything_at ts

-- behind a value
unfoldable pub value_at : Reader → Bool → Value → Row → Option (Atom × Row)
value_at deeper in_field v (colon ∷ ts) = behind_colon_at deeper v ts
value_at deeper in_field v ts = if in_field then Some (plain None v, ts) else None

unfoldable pub atom_at : Reader → Bool → Row → Option (Atom × Row)
atom_at deeper in_field (value v ∷ ts) = value_at deeper in_field v ts
atom_at deeper in_field (opening ∷ ts) = nested_at deeper None in_field ts
atom_at deeper in_field ts = None

-- a clause behind its operator: its sign and its atom
unfoldable pub clause_at : Reader → Bool → Row → Option ((Option Sign × Atom) × Row)
clause_at deeper in_field ts = option_map (λ a. (((sign_at ts).0, a.0), a.1)) (atom_at deeper in_field (sign_at ts).1)

-- with a clause in front
abbrev pub with_clause : Option Operator → Option Sign × Atom → Group × Row → Group × Row
with_clause o c g = (clause o c.0 c.1 g.0, g.1)

-- clauses up to `)` or the end, at most n
unfoldable pub clauses_at : (n : ℕ) → Reader → Bool → Row → Option (Group × Row)
clauses_at n deeper in_field [] = Some (no_more, [])
clauses_at n deeper in_field (closing ∷ ts) = Some (no_more, closing ∷ ts)
clauses_at zero deeper in_field (t ∷ ts) = None
clauses_at (suc n) deeper in_field (t ∷ ts) = do
  c ← clause_at deeper in_field (operator_at (t ∷ ts)).1
  option_map (with_clause (operator_at (t ∷ ts)).0 c.0) (clauses_at n deeper in_field c.1)

-- a first clause, and others
unfoldable pub group_at : Reader → Bool → Row → Option (Group × Row)
group_at deeper in_field ts = do
  c ← clause_at deeper in_field ts
  option_map (with_clause None c.0) (clauses_at (length c.1) deeper in_field c.1)

-- a group in which at most so many parentheses are open at once
unfoldable pub group_within : ℕ → Reader
group_within zero in_field ts = group_at (λ _ _. None) in_field ts
group_within (suc depth) in_field ts = group_at (group_within depth) in_field ts

-- what reads the groups inside it
unfoldable pub deeper_than : ℕ → Reader
deeper_than zero in_field ts = None
deeper_than (suc depth) in_field ts = group_within depth in_field ts

-- nothing is left
abbrev pub whole_at : Option (Group × Row) → Option Group
whole_at (Some (g, [])) = Some g
whole_at _ = None

-- the tree of a whole row, where it has one
abbrev pub tree_of : Row → Option Group
tree_of ts = whole_at (group_within 64 false ts)
