-- Words for the rounds of exact facets.
use Rattle.std.specs.Prelude.{ℕ, List, map}
use Rattle.fc_spec.specs.documents.World.{World}
use Rattle.fc_spec.specs.requests.Request.{Request}
use Rattle.fc_spec.specs.messages.TopRounds.{ExactAsk, ExactSent}
use Rattle.fc_spec.specs.messages.Trace.{Sent}
use Rattle.fc_spec.specs.messages.WholeTrace.{whole_trace}
use Rattle.fc_rows.proofs.messages.MessageWords.{Heard, heard}

-- what is asked, in which round of which shard
pub record AskedShard : Type 0 where
  pub round : ℕ
  pub shard : ℕ
  pub ask : ExactAsk

abbrev pub asked : ℕ → ℕ → ExactAsk → AskedShard
asked round shard ask = record { round = round; shard = shard; ask = ask }

abbrev pub asked_in : List ExactSent → List AskedShard
asked_in sent = map (λ s. asked s.round s.shard s.ask) sent

abbrev pub sent : ℕ → ℕ → ℕ → Sent
sent round shard length = record { round = round; shard = shard; length = length }

-- who answers in which round of a search
abbrev pub heard_whole : Request → World → List Heard
heard_whole r W = map (λ s. heard s.round s.shard) (whole_trace r W)
