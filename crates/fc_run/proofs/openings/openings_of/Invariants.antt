use Rattle.std.proofs.Common.{◌≡◌, ◌+◌, ◌++◌, ◌≤◌, drop, length, map}
use Rattle.fc_work.specs.Opened.{AreNumbered}
use Rattle.fc_work.specs.declared.stores.Opening.{Opening}
use Rattle.fc_docs.specs.declared.block.Batch.{Batch}
use Rattle.std.specs.Prelude.{Vec}
use Rattle.std.specs.declared.alloc.Global.{Global}
use Rattle.fc_run.specs.Progress.{CanCarryAll, all_left, charters_to, progress_of}
use Rattle.fc_run.proofs.openings.openings_of.Given as goal

-- the shards so far are cut, and each of the others can be
abbrev pub invariant-loop-one : goal.invariant-loop-one
invariant-loop-one l = record {
  count : length l.stores.items + length l.one-iterator.rest.items ≡ length l.commits;
  few : length l.commits ≤ 64;
  each : CanCarryAll (map progress_of l.one-iterator.rest.items) (drop (length l.stores.items) l.commits);
  charters : map (λ (o : Opening). o.charter) l.stores.items ++ charters_to (map progress_of l.one-iterator.rest.items) (drop (length l.stores.items) l.commits)
      ≡ charters_to (map progress_of l.fn.shards.items) l.commits;
  left : map (λ (own : Vec Batch Global). own.items) l.left.items ++ all_left (map progress_of l.one-iterator.rest.items) (drop (length l.stores.items) l.commits)
      ≡ all_left (map progress_of l.fn.shards.items) l.commits;
  numbered : AreNumbered l.stores.items;
}
