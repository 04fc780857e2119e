-- What each kind of query stands for.
use Rattle.std.proofs.Common.{◌≡◌}
use Rattle.std.specs.declared.vec.Vec.{Vec}
use Rattle.std.specs.declared.alloc.Global.{Global}
use Rattle.fc_base.specs.declared.field.FieldId.{FieldId}
use Rattle.fc_base.specs.declared.value.Val.{Val}
use Rattle.fc_base.specs.View.{val_view}
use Rattle.fc_query.specs.declared.query.Bound.{Bound}
use Rattle.fc_query.specs.declared.query.Clause.{Clause}
use Rattle.fc_query.specs.declared.query.Query as query
use Rattle.fc_query.specs.declared.query.Query.{Query, All, Has, Is, Between, Group}
use Rattle.fc_query.specs.declared.query.Query.TheFolds.{fold-roll-Query}
use Rattle.fc_query.specs.declared.query.Query.TheOpen as opened
use Rattle.fc_query.specs.QueryView.{Part, bound_view, clause_step, clauses_view, query_step, query_view}
use Rattle.fc_spec.specs.queries.Query as definition

pub view_of_all : query_view All ≡ definition.all
unfolding query.roll-Query denote.Hole.Carrier.roll
view_of_all = fold-roll-Query definition.Query Part query_step clause_step opened.All

pub view_of_has : (field : FieldId) → query_view (Has field) ≡ definition.has field.0
unfolding query.roll-Query denote.Hole.Carrier.roll
view_of_has field = fold-roll-Query definition.Query Part query_step clause_step (opened.Has field)

pub view_of_is : (field : FieldId) (v : Val) → query_view (Is field v) ≡ definition.is field.0 (val_view v)
unfolding query.roll-Query denote.Hole.Carrier.roll
view_of_is field v = fold-roll-Query definition.Query Part query_step clause_step (opened.Is field v)

pub view_of_between : (field : FieldId) (low high : Bound) → query_view (Between field low high) ≡ definition.between field.0 (bound_view low) (bound_view high)
unfolding query.roll-Query denote.Hole.Carrier.roll
view_of_between field low high = fold-roll-Query definition.Query Part query_step clause_step (opened.Between field low high)

pub view_of_group : (clauses : Vec Clause Global) → query_view (Group clauses) ≡ definition.group (clauses_view clauses.items)
unfolding query.roll-Query denote.Hole.Carrier.roll
view_of_group clauses = fold-roll-Query definition.Query Part query_step clause_step (opened.Group clauses)
