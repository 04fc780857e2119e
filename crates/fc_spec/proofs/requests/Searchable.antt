-- A search can be made of a valid request.
use Rattle.fc_spec.specs.documents.Schema.{Schema}
use Rattle.fc_spec.specs.requests.Request.{Request}
use Rattle.fc_spec.specs.requests.ValidRequests.{IsValidRequest, IsSearchable}

pub searchable : (s : Schema) (r : Request) → IsValidRequest s r → IsSearchable s r
searchable s r h = record { query = h.query; filters = h.filters; nodes = h.nodes; exact = h.exact; depth = h.depth }
