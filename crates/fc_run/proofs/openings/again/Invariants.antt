use Rattle.std.proofs.Common.{◌≡◌, ◌+◌, ◌++◌, drop, length, map}
use Rattle.std.specs.Arc.{arc_value}
use Rattle.std.specs.Prelude.{Vec}
use Rattle.std.specs.declared.alloc.Global.{Global}
use Rattle.fc_docs.specs.declared.block.Batch.{Batch}
use Rattle.fc_run.specs.Progress.{joined_again, progress_of}
use Rattle.fc_run.proofs.openings.again.Given as goal

abbrev pub invariant-loop-uncommitted : goal.invariant-loop-uncommitted
invariant-loop-uncommitted l = record {
  count : length l.shards.items + length l.uncommitted-iterator.rest.items ≡ length l.generations;
  made : map progress_of l.shards.items ++ joined_again (drop (length l.shards.items) (map arc_value l.generations)) (map (λ (own : Vec Batch Global). own.items) l.uncommitted-iterator.rest.items)
      ≡ joined_again (map arc_value l.generations) (map (λ (own : Vec Batch Global). own.items) l.fn.left.items);
}
