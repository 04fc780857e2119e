-- What queries stand for in the definitions.
use Rattle.std.specs.Prelude.{Bool, true, false, List, [], ◌∷◌, map}
use Rattle.fc_spec.specs.queries.Query as definition
use Rattle.fc_spec.specs.queries.QueryFault as fault
use Rattle.fc_base.specs.View.{val_view}
use Rattle.fc_query.specs.declared.fault.QueryFault.{QueryFault}
use Rattle.fc_query.specs.declared.fault.QueryFault.TheVariants as f
use Rattle.fc_query.specs.declared.query.Bound.{Bound}
use Rattle.fc_query.specs.declared.query.Bound.TheVariants as b
use Rattle.fc_query.specs.declared.query.Need.{Need}
use Rattle.fc_query.specs.declared.query.Need.TheVariants as n
use Rattle.fc_query.specs.declared.query.Clause.{Clause}
use Rattle.fc_query.specs.declared.query.Query.{Query}
use Rattle.fc_query.specs.declared.query.Query.TheOpen.{Query-F, All, Has, Is, Between, Group, Clause-F}
use Rattle.fc_query.specs.declared.query.Query.TheFolds.{fold-Query, fold-Clause}

abbrev pub query_fault_view : QueryFault → fault.QueryFault
query_fault_view f.Syntax = fault.syntax
query_fault_view f.MixedOperators = fault.mixed_operators
query_fault_view f.UnknownField = fault.unknown_field
query_fault_view f.BadValue = fault.bad_value

abbrev pub bound_view : Bound → definition.Bound
bound_view b.Unbounded = definition.unbounded
bound_view (b.Including v) = definition.including (val_view v)
bound_view (b.Excluding v) = definition.excluding (val_view v)

abbrev pub need_view : Need → definition.Need
need_view n.Must = definition.must
need_view n.MustNot = definition.must_not
need_view n.May = definition.may

-- a clause without those behind it
abbrev pub Part : Type 0
Part = definition.Need × definition.Query

-- clauses in their order
abbrev pub linked : List Part → definition.Clauses
linked [] = definition.no_clauses
linked (c ∷ cs) = definition.clause c.0 c.1 (linked cs)

abbrev pub query_step : Query-F definition.Query Part → definition.Query
query_step All = definition.all
query_step (Has field) = definition.has field.0
query_step (Is field v) = definition.is field.0 (val_view v)
query_step (Between field low high) = definition.between field.0 (bound_view low) (bound_view high)
query_step (Group clauses) = definition.group (linked clauses.items)

abbrev pub clause_step : Clause-F definition.Query Part → Part
clause_step c = (need_view c.need, c.query)

abbrev pub query_view : Query → definition.Query
query_view = fold-Query definition.Query Part query_step clause_step

abbrev pub clause_view : Clause → Part
clause_view = fold-Clause definition.Query Part query_step clause_step

abbrev pub clauses_view : List Clause → definition.Clauses
clauses_view cs = linked (map clause_view cs)

-- there is one, and it is optional
abbrev pub is_one_optional_of : definition.Clauses → Bool
is_one_optional_of (definition.clause definition.may q definition.no_clauses) = true
is_one_optional_of _ = false
