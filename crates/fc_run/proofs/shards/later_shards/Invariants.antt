use Rattle.std.proofs.Common.{◌≡◌, ◌+◌, ◌++◌, drop, length, map}
use Rattle.fc_run.specs.Progress.{CanCarryAll, all_carried, progress_of}
use Rattle.fc_run.proofs.shards.later_shards.Given as goal

-- the shards so far are carried on, and each of the others can be
abbrev pub invariant-loop-shard : goal.invariant-loop-shard
invariant-loop-shard l = record {
  count : length l.later.items + length l.shard-iterator.rest.items ≡ length l.commits;
  each : CanCarryAll (map progress_of l.shard-iterator.rest.items) (drop (length l.later.items) l.commits);
  made : map progress_of l.later.items ++ all_carried (map progress_of l.shard-iterator.rest.items) (drop (length l.later.items) l.commits)
      ≡ all_carried (map progress_of l.fn.shards.items) l.commits;
}
