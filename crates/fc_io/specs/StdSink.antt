-- A writer as a sink.
use Rattle.std.specs.Prelude.{ℕ}
use Rattle.fc_io.specs.declared.standard.sink.StdSink.{StdSink}

abbrev pub writer_of : {O : Type 0} → StdSink O → O
writer_of sink = sink.output

-- how many calls have failed
abbrev pub fault_count : {O : Type 0} → StdSink O → ℕ
fault_count sink = sink.faults
