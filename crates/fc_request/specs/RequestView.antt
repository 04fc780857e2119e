-- What requests stand for in the definitions.
use Rattle.std.specs.Prelude.{◌≡◌, [], map}
use Rattle.fc_spec.specs.requests.Request as definition
use Rattle.fc_spec.specs.requests.RequestReading.{of_facet}
use Rattle.fc_spec.specs.requests.DomainReading.{no_change}
use Rattle.fc_spec.specs.queries.Query.{all}
use Rattle.fc_query.specs.FilterView.{filter_view}
use Rattle.fc_query.specs.QueryView.{query_view}
use Rattle.fc_request.specs.declared.node.Node.{Node}
use Rattle.fc_request.specs.declared.request.Request.{Request}
use Rattle.fc_request.specs.NodeView.{node_view, inner_view}

abbrev pub request_view : Request → definition.Request
request_view r = record { query = query_view r.query; filters = map filter_view r.filters.items; nodes = inner_view r.root }

-- it has an empty name, changes no domain, and has every document
abbrev pub IsRoot : Node → Type 0
IsRoot n = node_view n ≡ ([], of_facet no_change (definition.query all) (inner_view n))
