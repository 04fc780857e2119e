use Rattle.std.proofs.Common.{◌≡◌, map, drop}
use Rattle.serde_json.specs.View.{items_view}
use Rattle.fc_spec.specs.requests.RequestWalk.{each_item}
use Rattle.fc_spec.specs.requests.RequestReading.{filter_read}
use Rattle.fc_query.specs.FilterView.{filter_view}
use Rattle.fc_parameters.proofs.ReadSoFar.{behind}
use Rattle.fc_parameters.proofs.filters.filters_of.Given as goal

abbrev pub invariant-loop-json : goal.invariant-loop-json
invariant-loop-json l =
    behind (map filter_view l.filters.items) (each_item (filter_read l.schema) (items_view (drop l.json-index l.list))) ≡ each_item (filter_read l.schema) (items_view l.list)
