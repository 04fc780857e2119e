-- What a table of lengths says.
use Rattle.std.specs.Prelude.{ℕ, zero, suc, ◌+◌, ◌*◌, List, Option, None, option_and_then, slice_get, nat_lt, if◌then◌else◌}
use Rattle.fc_spec.specs.messages.Lengths.{Lengths}
use Rattle.fc_hooks.specs.declared.round_probe.RoundProbe.{RoundProbe}

-- round by round from 1 on, 64 shards each
abbrev pub lengths_of : List (Option ℕ) → Lengths
lengths_of table zero shard = None
lengths_of table (suc n) shard = if nat_lt shard 64 then option_and_then (λ length. length) (slice_get table (64 * n + shard)) else None

abbrev pub lengths_in : RoundProbe → Lengths
lengths_in probe = lengths_of probe.table
