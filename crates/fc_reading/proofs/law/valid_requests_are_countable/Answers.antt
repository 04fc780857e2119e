use Rattle.fc_reading.proofs.ValidRanges.{valid_are_countable}
use Rattle.fc_reading.proofs.law.valid_requests_are_countable.Goals as goal

pub returns : goal.returns
returns c = valid_are_countable
