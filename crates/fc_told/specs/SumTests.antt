-- Whether a number can be added to a sum.
use Rattle.std.specs.Prelude.{ℕ, ◌+◌, ◌^◌, Bool, nat_lt}
use Rattle.fc_spec.specs.requests.Statistics.{StatValue}
use Rattle.fc_spec.specs.laws.SumsLaw.{size_of}

-- a count
abbrev pub count_fits : ℕ → ℕ → Bool
count_fits c n = nat_lt (c + n) (2 ^ 64)

-- an absolute value
abbrev pub size_fits : ℕ → StatValue → Bool
size_fits z v = nat_lt (z + size_of v) (2 ^ 63)
