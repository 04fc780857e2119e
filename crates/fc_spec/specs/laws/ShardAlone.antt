-- A shard's answer is made from its own blocks, and its number plays no part.
use Rattle.std.specs.Prelude.{◌≡◌, ℕ, slice_get}
use Rattle.fc_spec.specs.documents.World.{World}
use Rattle.fc_spec.specs.requests.Request.{Request}
use Rattle.fc_spec.specs.messages.Message.{Ask}
use Rattle.fc_spec.specs.messages.Answer.{answer}
use Rattle.fc_spec.specs.messages.TopRounds.{ExactAsk, exact_answer}

-- a shard with the same blocks answers the same, whatever its number and its world
abbrev pub AnswersFromItsBlocks : Type 0
AnswersFromItsBlocks = (r : Request) (V W : World) (i j : ℕ) → slice_get V i ≡ slice_get W j → (ask : Ask) → answer r V i ask ≡ answer r W j ask

-- so it does where it is asked for exact facets
abbrev pub ExactFromItsBlocks : Type 0
ExactFromItsBlocks = (r : Request) (V W : World) (i j : ℕ) → slice_get V i ≡ slice_get W j → (ask : ExactAsk) → exact_answer r V i ask ≡ exact_answer r W j ask
