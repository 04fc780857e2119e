-- What messages tell of a bucket can be added up.
use Rattle.std.specs.Prelude.{ℕ, pos, ◌<◌, ◌^◌, List, unsigned_abs, slice_index_or, sum_by, Option, None, Some}
use Rattle.std.specs.List.{AllByRecursion}
use Rattle.fc_spec.specs.documents.World.{World}
use Rattle.fc_spec.specs.requests.Request.{Request}
use Rattle.fc_spec.specs.requests.Statistics.{StatValue, number, extreme}
use Rattle.fc_spec.specs.scripts.WorldLimits.{IsWithinLimits}
use Rattle.fc_spec.specs.messages.Message.{Way}
use Rattle.fc_spec.specs.messages.Held.{HeldBucket, Told, held_in}
use Rattle.fc_spec.specs.messages.Merged.{held_count}
use Rattle.fc_spec.specs.messages.Rounds.{SentMessage, told_in}
use Rattle.fc_spec.specs.laws.LacksLaws.{TellOnce}
use Rattle.fc_spec.specs.laws.Merging.{IsAnswer}

-- the absolute value of a number; a least or greatest value adds nothing to a sum
abbrev pub size_of : StatValue → ℕ
size_of (number n) = unsigned_abs n
size_of (extreme o) = 0

-- that of a statistic of what is held, by its number; nothing adds nothing
abbrev pub held_size : ℕ → Option HeldBucket → ℕ
held_size m None = 0
held_size m (Some b) = size_of (slice_index_or b.stats.values m (number (pos 0)))

-- over all that is told the counts of each bucket add up to less than 2^64, and the absolute values of each of its numbers to less than 2^63
pub record SumsFit (A : List Told) : Type 0 where
  pub counts : (way : Way) → sum_by (λ t. held_count (held_in t way)) A < 2 ^ 64
  pub sizes : (m : ℕ) (way : Way) → sum_by (λ t. held_size m (held_in t way)) A < 2 ^ 63

-- so it is with the answers of shards that are within the limits, where no shard tells a bucket twice
abbrev pub AnswersFit : Type 0
AnswersFit = (r : Request) (W : World) (sent : List SentMessage) → IsWithinLimits W → AllByRecursion (IsAnswer r W) sent → TellOnce (told_in r.nodes sent) → SumsFit (told_in r.nodes sent)
