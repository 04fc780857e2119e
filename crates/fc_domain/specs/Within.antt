-- Values within two bounds.
use Rattle.std.specs.Prelude.{◌≡◌, ℤ, int_le, List, Bool, true, ◌&&◌}
use Rattle.std.specs.List.{list_any}
use Rattle.fc_spec.specs.documents.Val.{Val}
use Rattle.fc_spec.specs.documents.IntegerTexts.{is_long}
use Rattle.fc_spec.specs.queries.Query.{Bound}
use Rattle.fc_spec.specs.queries.Matching.{is_above, is_below}

abbrev pub meets : (low high : Bound) → Val → Bool
meets low high v = is_above low v && is_below high v

-- one of the values meets both bounds
abbrev pub has_meeting : (low high : Bound) → List Val → Bool
has_meeting low high vs = list_any (meets low high) vs

-- of the integers of 64 bits signed, those that pass are those from low to high
abbrev pub PassesFromTo : (low high : ℤ) → (ℤ → Bool) → Type 0
PassesFromTo low high test = (z : ℤ) → is_long z ≡ true → test z ≡ (int_le low z && int_le z high)
