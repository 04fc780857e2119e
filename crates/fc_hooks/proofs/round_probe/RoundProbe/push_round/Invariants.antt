use Rattle.std.proofs.Common.{◌≡◌, ◌++◌, map}
use Rattle.fc_hooks.specs.ProbeTable.{lengths_in}
use Rattle.fc_hooks.specs.SentLists.{round_entries, sent_view}
use Rattle.fc_hooks.proofs.round_probe.RoundProbe.push_round.Given as goal

-- those of the shards so far
abbrev pub invariant-loop-shard : goal.invariant-loop-shard
invariant-loop-shard l = map sent_view l.sent.items ≡ map sent_view l.fn.sent.items ++ round_entries l.shard (lengths_in l.self) l.round
