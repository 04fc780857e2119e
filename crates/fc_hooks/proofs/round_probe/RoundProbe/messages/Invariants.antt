use Rattle.std.proofs.Common.{◌≡◌, ◌≤◌, is_some, count_by, map}
use Rattle.fc_spec.specs.words.Lists.{numbers_below}
use Rattle.fc_hooks.specs.ProbeTable.{lengths_in}
use Rattle.fc_hooks.proofs.round_probe.RoundProbe.messages.Given as goal

abbrev pub invariant-loop-shard : goal.invariant-loop-shard
invariant-loop-shard l = record {
  is : l.count ≡ count_by is_some (map (lengths_in l.self l.round) (numbers_below l.shard));
  few : l.count ≤ l.shard;
}
