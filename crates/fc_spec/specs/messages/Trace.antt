-- How many bytes each shard sends in each round.
use Rattle.std.specs.Prelude.{ℕ, List, map, length}
use Rattle.fc_spec.specs.documents.World.{World}
use Rattle.fc_spec.specs.requests.Request.{Request}
use Rattle.fc_spec.specs.messages.MessageBytes.{message_bytes}
use Rattle.fc_spec.specs.messages.Rounds.{SentMessage, search_rounds}

-- the length of a shard's message of a round, in bytes
pub record Sent : Type 0 where
  pub round : ℕ
  pub shard : ℕ
  pub length : ℕ

abbrev pub entry_of : SentMessage → Sent
entry_of s = record { round = s.round; shard = s.shard; length = length (message_bytes s.message) }

-- one entry for each message of a search, ascending by round, then shard
abbrev pub trace : Request → World → List Sent
trace r W = map entry_of (search_rounds r W)
