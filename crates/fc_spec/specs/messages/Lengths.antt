-- Lengths of messages by round and shard, and entries that are put in.
use Rattle.std.specs.Prelude.{ℕ, List, [], ◌∷◌, Bool, ◌&&◌, ◌==◌, Option, None, Some, if◌then◌else◌}
use Rattle.std.specs.List.{flat_map, range_with_len}
use Rattle.fc_spec.specs.words.Lists.{numbers_below}
use Rattle.fc_spec.specs.messages.Trace.{Sent}

-- a finite map from pairs of a round and a shard: what stands there, if something does
abbrev pub Lengths : Type 0
Lengths = (round shard : ℕ) → Option ℕ

abbrev pub no_lengths : Lengths
no_lengths round shard = None

-- the entry is that of a round and a shard
abbrev pub is_of : ℕ → ℕ → Sent → Bool
is_of round shard e = (e.round == round) && (e.shard == shard)

-- an entry put in, in the place of another of its round and shard
abbrev pub put : Sent → Lengths → Lengths
put e m = λ round shard. if is_of round shard e then Some e.length else m round shard

abbrev pub put_all : List Sent → Lengths → Lengths
put_all [] m = m
put_all (e ∷ es) m = put_all es (put e m)

-- the entry of a round and a shard, where there is one
abbrev pub entry_of_length : ℕ → ℕ → Option ℕ → List Sent
entry_of_length round shard None = []
entry_of_length round shard (Some n) = record { round = round; shard = shard; length = n } ∷ []

-- the entries of so many rounds, from 1 on, and shards, round after round
abbrev pub entries_up_to : ℕ → ℕ → Lengths → List Sent
entries_up_to rounds shards m = flat_map (λ round. flat_map (λ shard. entry_of_length round shard (m round shard)) (numbers_below shards)) (range_with_len 1 rounds)
