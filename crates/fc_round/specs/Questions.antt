-- What shards are asked in a round, and what they answer.
use Rattle.std.specs.Prelude.{ℕ, ◌<◌, length, IsTrue}
use Rattle.std.specs.List.{AllByRecursion}
use Rattle.fc_spec.specs.documents.World.{World}
use Rattle.fc_spec.specs.requests.Request.{Request}
use Rattle.fc_spec.specs.messages.Message.{Ask, first, more, Partials, way_of}
use Rattle.fc_spec.specs.messages.TopRounds.{ExactAsk, exact_first, exact_least, exact_more, exact_answer}
use Rattle.fc_spec.specs.laws.LacksLaws.{names_keys}
use Rattle.fc_units.specs.LeastLists.{NestNothing}

-- what a shard is asked
pub record ShardAsk : Type 0 where
  pub shard : ℕ
  pub ask : ExactAsk

-- the answer of a shard
pub record ShardAnswer : Type 0 where
  pub shard : ℕ
  pub message : Partials

-- the answer of the world's shard of this number
abbrev pub answered : Request → World → ShardAsk → ShardAnswer
answered r W q = record { shard = q.shard; message = exact_answer r W q.shard q.ask }

-- what a shard can be asked: where nothing is nested the values from counts on; of buckets some, each by a key of a facet of the request
abbrev pub CanAsk : Request → ExactAsk → Type 0
CanAsk r exact_first = Unit {0}
CanAsk r (exact_least ns) = NestNothing r.nodes
CanAsk r (exact_more wants) = (0 < length wants) × AllByRecursion (λ w. IsTrue (names_keys r.nodes (way_of w))) wants

-- and which of n shards
abbrev pub CanBeAsked : Request → ℕ → ShardAsk → Type 0
CanBeAsked r n q = (q.shard < n) × CanAsk r q.ask

-- an ask of a search, as one of those
abbrev pub exact_of : Ask → ExactAsk
exact_of first = exact_first
exact_of (more wants) = exact_more wants
