use Rattle.std.proofs.Common.{◌≤◌, length, map}
use Rattle.fc_run.specs.Progress.{progress_of}
use Rattle.fc_run.proofs.phases.write_script.Given as goal
use Rattle.fc_run.proofs.scripts.Going.{Going}

abbrev pub invariant-loop-phase : goal.invariant-loop-phase
invariant-loop-phase g l = record {
  going : Going l.fn.script (length l.yielded) l.phase-iterator.rest.items (map progress_of l.shards.items) l.first (g.K.Sink.written l.fn.sink) (g.K.Sink.written l.sink) (g.B.Book.books l.fn.book) (g.B.Book.books l.book);
  faults : g.K.Sink.faults l.fn.sink ≤ g.K.Sink.faults l.sink;
}
