-- A reader as a source.
use Rattle.std.specs.Prelude.{ℕ}
use Rattle.fc_io.specs.declared.standard.source.StdSource.{StdSource}

abbrev pub reader_of : {I : Type 0} → StdSource I → I
reader_of source = source.input

-- how many calls have failed
abbrev pub fault_count : {I : Type 0} → StdSource I → ℕ
fault_count source = source.faults
