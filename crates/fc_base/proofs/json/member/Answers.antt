use Rattle.std.proofs.Common.{◌≡◌, Option, Some, None, Bor, option_map, refl, ◌∙◌, ap}
use Rattle.std.specs.Option.{option_copied}
use Rattle.serde_json.specs.View.{view}
use Rattle.serde_json.specs.declared.value.Value.{Value}
use Rattle.serde_json.proofs.Views.{view-lookup}
use Rattle.fc_base.proofs.json.member.Goals as goal

seen : (found : Option (Bor Value)) → option_map (λ json. view json.now) found ≡ option_map view (option_copied found)
seen None = refl
seen (Some json) = refl

pub returns : goal.returns
returns c = seen c.get.result ∙ ap (option_map view) c.get.ensures.value ∙ view-lookup c.args.name.now c.args.members.now.entries
