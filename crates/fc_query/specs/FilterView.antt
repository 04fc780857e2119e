-- What filters stand for in the definitions, and what reading tags answers.
use Rattle.std.specs.Prelude.{◌≡◌, List, Option, None, Some, Result, Ok, Err}
use Rattle.std.specs.declared.vec.Vec.{Vec}
use Rattle.std.specs.declared.alloc.Global.{Global}
use Rattle.fc_spec.specs.documents.Val.{Text}
use Rattle.fc_spec.specs.requests.Request as request
use Rattle.fc_spec.specs.queries.QueryFault as fault
use Rattle.fc_base.specs.declared.error.Refusal.{Refusal}
use Rattle.fc_base.specs.declared.error.Refusal.TheVariants.{Memory, Fault}
use Rattle.fc_query.specs.declared.fault.FilterFault.{FilterFault}
use Rattle.fc_query.specs.declared.fault.FilterFault.TheVariants.{Shape, Query}
use Rattle.fc_query.specs.declared.fault.QueryFault.TheVariants.{Syntax}
use Rattle.fc_query.specs.declared.filter.Filter.{Filter}
use Rattle.fc_query.specs.QueryView.{query_fault_view, query_view}

abbrev pub filter_view : Filter → request.Filter
filter_view f = record { tags = f.tags.items; query = query_view f.query }

abbrev pub filter_fault_view : FilterFault → fault.FilterFault
filter_fault_view Shape = fault.shape
filter_fault_view (Query f) = fault.query (query_fault_view f)

-- these are the tags; or a part is no tag, which is a syntax fault; or memory ran out
abbrev pub Tagged : Result (Vec Text Global) (Refusal FilterFault) → Option (List Text) → Type 0
Tagged (Ok tags) defined = defined ≡ Some tags.items
Tagged (Err Memory) defined = Unit {0}
Tagged (Err (Fault fault)) defined = (defined ≡ None) × (fault ≡ Query Syntax)
