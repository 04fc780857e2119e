use Rattle.std.proofs.Common.{◌≡◌, map, drop}
use Rattle.serde_json.specs.View.{items_view}
use Rattle.fc_spec.specs.requests.RequestWalk.{each_item, text_in}
use Rattle.fc_parameters.proofs.ReadSoFar.{behind}
use Rattle.fc_parameters.proofs.words.texts_of.Given as goal

abbrev pub invariant-loop-json : goal.invariant-loop-json
invariant-loop-json l =
    behind (map (λ t. t.now) l.texts.items) (each_item text_in (items_view (drop l.json-index l.list))) ≡ each_item text_in (items_view l.list)
