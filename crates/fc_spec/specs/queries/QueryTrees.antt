-- Concrete syntax trees of query texts, and the tokens that spell them. Guide: Standard Query Parser.
use Rattle.std.specs.Prelude.{List, [], ◌∷◌, ◌++◌, Option, None, Some, option_map}
use Rattle.std.specs.Option.{option_to_list}
use Rattle.fc_spec.specs.documents.Val.{Text}
use Rattle.fc_spec.specs.queries.QueryTokens.{Value, word, star, Sign, Operator, Token, value, sign, operator, opening, closing, colon}

mutual
  -- a value, perhaps under a field's name; `*:*`; a group in parentheses, perhaps under a field's name
  pub data Atom : Type 0 where
    plain : Option Text → Value → Atom
    everything : Atom
    nested : Option Text → Group → Atom

  -- clauses in their order, each perhaps behind an operator, and perhaps with a sign
  pub data Group : Type 0 where
    no_more : Group
    clause : Option Operator → Option Sign → Atom → Group → Group

-- a name and its colon
abbrev pub name_tokens : Option Text → List Token
name_tokens None = []
name_tokens (Some n) = value (word n) ∷ colon ∷ []

abbrev pub operator_tokens : Option Operator → List Token
operator_tokens o = option_to_list (option_map operator o)

abbrev pub sign_tokens : Option Sign → List Token
sign_tokens s = option_to_list (option_map sign s)

abbrev mutual
  -- the tokens that spell an atom
  pub atom_tokens : Atom → List Token
  atom_tokens (plain n v) = name_tokens n ++ value v ∷ []
  atom_tokens everything = value star ∷ colon ∷ value star ∷ []
  atom_tokens (nested n g) = name_tokens n ++ opening ∷ (group_tokens g ++ closing ∷ [])

  -- the tokens that spell the clauses
  pub group_tokens : Group → List Token
  group_tokens no_more = []
  group_tokens (clause o s a g) = operator_tokens o ++ (sign_tokens s ++ (atom_tokens a ++ group_tokens g))
