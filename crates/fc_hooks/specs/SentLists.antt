-- The lengths that a probe tells, in a list.
use Rattle.std.specs.Prelude.{ℕ, List}
use Rattle.std.specs.List.{flat_map}
use Rattle.fc_spec.specs.words.Lists.{numbers_below}
use Rattle.fc_spec.specs.messages.Lengths.{Lengths, entry_of_length}
use Rattle.fc_spec.specs.messages.Trace as definition
use Rattle.fc_hooks.specs.declared.round_probe.Sent.{Sent}

abbrev pub sent_view : Sent → definition.Sent
sent_view sent = record { round = sent.round; shard = sent.shard; length = sent.length }

-- the entries of a round, of so many shards
abbrev pub round_entries : ℕ → Lengths → ℕ → List definition.Sent
round_entries shards m round = flat_map (λ shard. entry_of_length round shard (m round shard)) (numbers_below shards)
