-- A sink in memory.
use Rattle.std.specs.Prelude.{ℕ, List, ◌≤◌, length}
use Rattle.fc_io.specs.Calls.{CallLog}

pub record Store : Type 0 where
  -- the bytes that were written
  pub written : List ℕ
  -- so many bytes have room in all
  pub room : ℕ
  -- at most so many bytes are taken in one call
  pub piece : ℕ
  pub calls : CallLog

-- no room is left
abbrev pub IsFull : Store → Type 0
IsFull store = store.room ≤ length store.written
