use Rattle.std.proofs.Common.{◌≡◌, map}
use Rattle.serde_json.specs.View.{members_view}
use Rattle.fc_spec.specs.scripts.JsonObjects.{only_names}
use Rattle.fc_base.proofs.json.has_only.Given as goal

abbrev pub invariant-loop-name : goal.invariant-loop-name
invariant-loop-name l = only_names (map (λ name. name.now) l.names) (members_view l.members.entries) ≡ only_names (map (λ name. name.now) l.names) (members_view l.name-iterator)
