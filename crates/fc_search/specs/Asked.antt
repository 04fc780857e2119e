-- What a coordinator asks, as what a round can ask.
use Rattle.std.specs.Prelude.{List, map, Option, option_map}
use Rattle.fc_spec.specs.messages.Message.{Ask}
use Rattle.fc_spec.specs.messages.TopRounds.{ExactAsk}
use Rattle.fc_round.specs.Questions.{exact_of}

abbrev pub exact_asks : List (Option Ask) → List (Option ExactAsk)
exact_asks asks = map (option_map exact_of) asks
