use Rattle.fc_spec.proofs.queries.TextReadings.{one_reading}
use Rattle.fc_spec.proofs.query_texts_have_one_meaning.Goals as goal

pub returns : goal.returns
returns c = one_reading
