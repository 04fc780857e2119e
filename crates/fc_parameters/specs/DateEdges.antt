-- The edges of a range over dates, one behind another.
use Rattle.std.specs.Prelude.{List, [], ◌∷◌, Option, Some, None, Result, Ok, Err}
use Rattle.fc_spec.specs.documents.Val.{Text}
use Rattle.fc_spec.specs.requests.RequestFault.{QFault, bad_parameter}
use Rattle.fc_dates.specs.DateView.{date_view}
use Rattle.fc_parameters.specs.declared.dates.Edge.{Edge}
use Rattle.fc_parameters.specs.declared.dates.Edge.TheVariants.{Inner, Last}

-- what follows from the edge behind a low end
abbrev pub goes_on : (Text → Result (List Text) QFault) → Option Edge → Result (List Text) QFault
goes_on go_on None = Err bad_parameter
goes_on go_on (Some (Inner date)) = go_on (date_view date)
goes_on go_on (Some (Last date)) = Ok (date_view date ∷ [])
