-- What shards send in a round.
use Rattle.std.specs.Prelude.{◌≡◌, List, [], ◌∷◌}
use Rattle.fc_spec.specs.messages.Nesting.{Spells}
use Rattle.fc_round.specs.Questions.{ShardAnswer}
use Rattle.fc_round.specs.declared.response.Response.{Response}

-- they spell these answers of shards, one after another
abbrev pub SpellAnswers : List Response → List ShardAnswer → Type 0
SpellAnswers [] [] = Unit {0}
SpellAnswers [] (a ∷ answers) = ⊥
SpellAnswers (r ∷ responses) [] = ⊥
SpellAnswers (r ∷ responses) (a ∷ answers) = (r.shard ≡ a.shard) × Spells r.bytes.items a.message × SpellAnswers responses answers
