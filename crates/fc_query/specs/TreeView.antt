-- What trees stand for in the definitions.
use Rattle.std.specs.Prelude.{Bool, true, false, List, [], ◌∷◌, Option, map, option_map}
use Rattle.fc_spec.specs.queries.QueryTokens as token
use Rattle.fc_spec.specs.queries.QueryTrees as definition
use Rattle.fc_query.specs.declared.tokens.Token.{Token}
use Rattle.fc_query.specs.declared.trees.Atom.{Atom}
use Rattle.fc_query.specs.declared.trees.Atom.TheOpen.{Atom-F, Plain, Nested, Everything, Clause-F}
use Rattle.fc_query.specs.declared.trees.Atom.TheFolds.{fold-Atom, fold-Clause}
use Rattle.fc_query.specs.declared.trees.Clause.{Clause}
use Rattle.fc_query.specs.View.{operator_view, sign_view, token_view, value_view}

-- a clause without those behind it
abbrev pub Part : Type 0
Part = Option token.Operator × Option token.Sign × definition.Atom

-- clauses in their order
abbrev pub linked : List Part → definition.Group
linked [] = definition.no_more
linked (c ∷ cs) = definition.clause c.0 c.1 c.2 (linked cs)

abbrev pub atom_step : Atom-F definition.Atom Part → definition.Atom
atom_step (Plain name v) = definition.plain (option_map (λ n. n.now) name) (value_view v.now)
atom_step Everything = definition.everything
atom_step (Nested name clauses) = definition.nested (option_map (λ n. n.now) name) (linked clauses.items)

abbrev pub clause_step : Clause-F definition.Atom Part → Part
clause_step c = (option_map operator_view c.operator, option_map sign_view c.sign, c.atom)

abbrev pub atom_view : Atom → definition.Atom
atom_view = fold-Atom definition.Atom Part atom_step clause_step

abbrev pub clause_view : Clause → Part
clause_view = fold-Clause definition.Atom Part atom_step clause_step

abbrev pub group_view : List Clause → definition.Group
group_view cs = linked (map clause_view cs)

-- tokens in their order
abbrev pub row_of : List Token → List token.Token
row_of ts = map token_view ts

-- a group ends
abbrev pub is_end_of : List token.Token → Bool
is_end_of [] = true
is_end_of (token.closing ∷ ts) = true
is_end_of (t ∷ ts) = false

-- a clause with the operator before it
abbrev pub behind_operator : Option token.Operator → Option ((Option token.Sign × definition.Atom) × List token.Token) → Option (Part × List token.Token)
behind_operator o c = option_map (λ x. ((o, x.0.0, x.0.1), x.1)) c
