-- What an answer says of a definition with one fault.
use Rattle.std.proofs.Common.{◌≡◌, Option, Some, None, Ok}
use Rattle.fc_base.specs.Answers.{or_fault}

pub given_by_ok : {V : Type 0} (defined : Option V) (value : V) → or_fault defined ≡ Ok value → defined ≡ Some value
given_by_ok None value is = cc
given_by_ok (Some other) value is = cc
