-- Counts of faults.
use Rattle.std.specs.Prelude.{ℕ, ◌+◌, ◌-◌, ◌^◌, ◌≤◌, min}

-- a count with one fault more: it stands still at the last value of a u64
abbrev pub risen : ℕ → ℕ
risen count = min (count + 1) (2 ^ 64 - 1)

-- the count rose: it is greater than before, or stands at that last value
abbrev pub Rose : ℕ → ℕ → Type 0
Rose before now = (risen before ≤ now) × (now ≤ 2 ^ 64 - 1)
