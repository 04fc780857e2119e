-- A source in memory.
use Rattle.std.specs.Prelude.{ℕ, List}
use Rattle.fc_io.specs.Calls.{CallLog}

pub record Supply : Type 0 where
  -- the bytes that are left
  pub left : List ℕ
  -- at most so many bytes come in one call
  pub piece : ℕ
  pub calls : CallLog
