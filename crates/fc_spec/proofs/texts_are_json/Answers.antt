use Rattle.fc_spec.proofs.scripts.JsonTexts.{texts_are_json}
use Rattle.fc_spec.proofs.texts_are_json.Goals as goal

pub returns : goal.returns
returns c = texts_are_json
