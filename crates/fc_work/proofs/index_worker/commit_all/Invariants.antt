use Rattle.std.proofs.Common.{◌≡◌, ◌-◌}
use Rattle.fc_store.specs.Charters.{last_number}
use Rattle.fc_work.proofs.index_worker.commit_all.Given as goal

abbrev pub invariant-loop-writer : goal.invariant-loop-writer
invariant-loop-writer g l = record {
  schema : l.writer.schema ≡ l.initial.writer.schema;
  charter : l.writer.charter ≡ l.initial.writer.charter;
}

abbrev pub decreases-loop-writer : goal.decreases-loop-writer
decreases-loop-writer g l = last_number l.writer.charter - l.writer.number
