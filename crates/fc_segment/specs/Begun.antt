-- Sets whose first positions are decided.
use Rattle.std.specs.Prelude.{ℕ, ◌-◌, ◌++◌, List, length, replicate, Bool, false}

-- the first positions as they are said, and behind them none, up to a length
abbrev pub begun : ℕ → List Bool → List Bool
begun len marks = marks ++ replicate (len - length marks) false
