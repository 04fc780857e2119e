-- The shards that are awaited, as those that are asked something.
use Rattle.std.specs.Prelude.{ℕ, suc, List, [], ◌∷◌, Option, None, Some}
use Rattle.fc_spec.specs.messages.TopRounds.{ExactAsk}
use Rattle.fc_round.specs.Questions.{ShardAsk}

-- of asks of shards, of which the first has the number i, each that is there with its shard
abbrev pub questions_from : ℕ → List (Option ExactAsk) → List ShardAsk
questions_from i [] = []
questions_from i (None ∷ asks) = questions_from (suc i) asks
questions_from i (Some ask ∷ asks) = record { shard = i; ask = ask } ∷ questions_from (suc i) asks
