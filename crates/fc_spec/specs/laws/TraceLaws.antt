-- What holds of traces: a round and a shard have one entry, and the order in which buckets are asked for changes no length.
use Rattle.std.specs.Prelude.{◌≡◌, ◌⊎◌, ℕ, ◌<◌, ◌≤◌, List, length, false, Some, AllPairs, IsPermutation}
use Rattle.std.specs.List.{AllByRecursion}
use Rattle.fc_spec.specs.documents.Schema.{Schema}
use Rattle.fc_spec.specs.documents.World.{World}
use Rattle.fc_spec.specs.requests.Request.{Request}
use Rattle.fc_spec.specs.requests.ValidRequests.{IsValidRequest}
use Rattle.fc_spec.specs.messages.Message.{Want, more}
use Rattle.fc_spec.specs.messages.Answer.{answer}
use Rattle.fc_spec.specs.messages.MessageBytes.{message_bytes}
use Rattle.fc_spec.specs.messages.Trace.{Sent, trace}
use Rattle.fc_spec.specs.messages.WholeTrace.{whole_trace}
use Rattle.fc_spec.specs.messages.Lengths.{Lengths, entries_up_to, is_of, no_lengths, put_all}

-- by round, then by shard
abbrev pub StandsBefore : Sent → Sent → Type 0
StandsBefore a b = (a.round < b.round) ⊎ ((a.round ≡ b.round) × (a.shard < b.shard))

abbrev pub Ascend : List Sent → Type 0
Ascend es = AllPairs StandsBefore es

-- the entries of a trace ascend, so that no two are of one round and shard
abbrev pub TracesAscend : Type 0
TracesAscend = (r : Request) (W : World) → Ascend (trace r W)

-- of a valid request they are of rounds 1 to 9 and of shards that are there
abbrev pub ValidTracesAreWithin : Type 0
ValidTracesAreWithin = (s : Schema) (r : Request) (W : World) → IsValidRequest s r → AllByRecursion (λ e. (1 ≤ e.round) × (e.round ≤ 9) × (e.shard < length W)) (trace r W)

-- where entries ascend, each stands in the map that they were put in, and what stood elsewhere still does
pub record AreIn (es : List Sent) (before after : Lengths) : Type 0 where
  pub each : AllByRecursion (λ e. after e.round e.shard ≡ Some e.length) es
  pub others : (round shard : ℕ) → AllByRecursion (λ e. is_of round shard e ≡ false) es → after round shard ≡ before round shard

abbrev pub EntriesAreIn : Type 0
EntriesAreIn = (es : List Sent) (m : Lengths) → Ascend es → AreIn es m (put_all es m)

-- an answer is as long, whatever the order of the buckets that are asked for
abbrev pub OrderOfWantsIsFree : Type 0
OrderOfWantsIsFree = (r : Request) (W : World) (i : ℕ) (wants others : List Want) → IsPermutation wants others → length (message_bytes (answer r W i (more others))) ≡ length (message_bytes (answer r W i (more wants)))

-- so the trace of a valid request, over shards that are not too many, is listed again from the map that it alone was put in
abbrev pub ValidTracesAreListed : Type 0
ValidTracesAreListed = (s : Schema) (r : Request) (W : World) (rounds shards : ℕ) → IsValidRequest s r → 9 ≤ rounds → length W ≤ shards → entries_up_to rounds shards (put_all (trace r W) no_lengths) ≡ trace r W

-- ---- with the rounds of exact facets

abbrev pub WholeTracesAscend : Type 0
WholeTracesAscend = (r : Request) (W : World) → Ascend (whole_trace r W)

-- three more rounds at most
abbrev pub ValidWholeTracesAreWithin : Type 0
ValidWholeTracesAreWithin = (s : Schema) (r : Request) (W : World) → IsValidRequest s r → AllByRecursion (λ e. (1 ≤ e.round) × (e.round ≤ 12) × (e.shard < length W)) (whole_trace r W)

abbrev pub ValidWholeTracesAreListed : Type 0
ValidWholeTracesAreListed = (s : Schema) (r : Request) (W : World) (rounds shards : ℕ) → IsValidRequest s r → 12 ≤ rounds → length W ≤ shards → entries_up_to rounds shards (put_all (whole_trace r W) no_lengths) ≡ whole_trace r W
