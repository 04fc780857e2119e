-- What a node leaves of a list that is read beside the nodes of a bucket.
use Rattle.std.specs.Prelude.{◌≡◌, List, false, Option, None, Some}
use Rattle.fc_spec.specs.requests.Request.{Nodes, stats_of}
use Rattle.fc_spec.specs.requests.RequestReading.{with_node}
use Rattle.fc_spec.specs.requests.Statistics.{StatValue}
use Rattle.fc_spec.specs.messages.Message.{Rows}
use Rattle.fc_spec.specs.messages.MessageShape.{values_fit, rows_fit}
use Rattle.fc_spec.specs.requests.Ranks.{offered_bound}
use Rattle.fc_request.specs.NodeView.{Part}

-- of values: whatever nodes follow, the values fit where what is left fits these; none is left where they cannot fit
abbrev pub LeavesValues : Part → List StatValue → Option (List StatValue) → Type 0
LeavesValues n values None = (rest : Nodes) → values_fit (stats_of (with_node n.0 n.1 rest)) values ≡ false
LeavesValues n values (Some left) = (rest : Nodes) → values_fit (stats_of (with_node n.0 n.1 rest)) values ≡ values_fit (stats_of rest) left

-- the same of lists of buckets
abbrev pub LeavesRows : Part → Rows → Option Rows → Type 0
LeavesRows n rows None = (rest : Nodes) → rows_fit offered_bound rows (with_node n.0 n.1 rest) ≡ false
LeavesRows n rows (Some left) = (rest : Nodes) → rows_fit offered_bound rows (with_node n.0 n.1 rest) ≡ rows_fit offered_bound left rest
