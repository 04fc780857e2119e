-- Words for small messages, and for what rounds are compared by.
use Rattle.std.specs.Prelude.{◌≡◌, ℕ, List, [], map, nat_le, Bool, codes}
use Rattle.std.specs.List.{filter, list_all}
use Prim.Native.String.{String}
use Rattle.fc_spec.specs.documents.Val.{Text, text}
use Rattle.fc_spec.specs.documents.World.{World}
use Rattle.fc_spec.specs.requests.Request.{Request}
use Rattle.fc_spec.specs.requests.Buckets.{Key, value}
use Rattle.fc_spec.specs.requests.Statistics.{Stats}
use Rattle.fc_spec.specs.messages.Message.{Partials, no_partials, partial, no_rows, row, Way, Want, Ask}
use Rattle.fc_spec.specs.messages.Answer.{answer}
use Rattle.fc_spec.specs.messages.Held.{Told}
use Rattle.fc_spec.specs.messages.Lacks.{Lack, lacks}
use Rattle.fc_spec.specs.messages.MessageShape.{is_shaped}
use Rattle.fc_spec.specs.messages.Merged.{merged}
use Rattle.fc_spec.specs.messages.Rounds.{SentMessage, told_in, next_lacks, search_rounds}
use Rattle.fc_spec.specs.replies.Json.{facets_text}
use Rattle.fc_rows.proofs.Words.{BothSay}

-- the key of a text
abbrev pub key_of : String → Key
key_of s = value (text (codes s))

-- a count without statistics
abbrev pub counted : ℕ → Stats
counted n = record { count = n; values = [] }

-- a bucket with nothing nested, before others
abbrev pub leaf : Key → ℕ → Partials → Partials
leaf key n rest = partial key (counted n) no_rows rest

-- one with the buckets of one facet nested in it
abbrev pub branch : Key → ℕ → (inside rest : Partials) → Partials
branch key n inside rest = partial key (counted n) (row inside no_rows) rest

-- a message of one bucket with one node
abbrev pub around : Key → ℕ → Partials → Partials
around key n inside = branch key n inside no_partials

-- a bucket that is asked for
abbrev pub want : Way → ℕ → Key → Want
want path node key = record { path = path; node = node; key = key }

-- who answers in which round
pub record Heard : Type 0 where
  pub round : ℕ
  pub shard : ℕ

abbrev pub heard : ℕ → ℕ → Heard
heard round shard = record { round = round; shard = shard }

abbrev pub heard_in : List SentMessage → List Heard
heard_in sent = map (λ s. heard s.round s.shard) sent

-- the messages of the rounds up to a number
abbrev pub up_to_round : ℕ → Request → World → List SentMessage
up_to_round n r W = filter (λ s. nat_le s.round n) (search_rounds r W)

-- what two shards' messages merge into
abbrev pub merged_text : Request → List SentMessage → Text
merged_text r sent = facets_text (merged r 2 (told_in r.nodes sent))

-- the distributed and the exact reply, and what the messages merge into, all have this text
abbrev pub AllSay : Request → World → Text → Type 0
AllSay r W t = BothSay r W t × (merged_text r (search_rounds r W) ≡ t)

-- each message has the shape for its ask
abbrev pub all_shaped : Request → List SentMessage → Bool
all_shaped r sent = list_all (λ s. is_shaped r s.ask s.message) sent

-- what a shard answers
abbrev pub answer_of : (shard : ℕ) → Request → World → Ask → Partials
answer_of shard r W ask = answer r W shard ask

-- what lacks at a depth, of what so many shards told
abbrev pub lacks_of : (shards : ℕ) → Request → List Told → (depth : ℕ) → List Lack
lacks_of shards r told depth = lacks r shards told depth

-- what the next round asks for, from a depth on
abbrev pub next_lacks_of : (shards : ℕ) → Request → List Told → (depths depth : ℕ) → List Lack
next_lacks_of shards r told depths depth = next_lacks r shards told depths depth
