-- The calls of a source or a sink in memory, and which of them fail.
use Rattle.std.specs.Prelude.{ℕ, List, Contains}
use Rattle.fc_io.specs.Faults.{risen}

pub record CallLog : Type 0 where
  -- the numbers of the calls that fail
  pub failing : List ℕ
  -- the number of the next call; it stands still at the last value of a u64
  pub next : ℕ
  -- how many calls have failed
  pub faults : ℕ

-- before the first call, which has the number 1
abbrev pub no_calls : List ℕ → CallLog
no_calls failing = record { failing = failing; next = 1; faults = 0 }

-- the next call is one of those that fail
abbrev pub NextFails : CallLog → Type 0
NextFails log = Contains log.failing log.next

-- with one call more
abbrev pub called : CallLog → CallLog
called log = record log { next = risen log.next }

-- with one call more, which failed
abbrev pub failed : CallLog → CallLog
failed log = record log { next = risen log.next; faults = risen log.faults }
