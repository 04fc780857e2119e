-- How a tally grows.
use Rattle.std.specs.Prelude.{◌≡◌, false, List, All, Option, Some, None}
use Rattle.std.specs.Map.{lookup, keys_of, values_of}
use Rattle.std.specs.BTreeMap.{insert_entry}
use Rattle.std.specs.List.Sorted.{IsStrictlySortedBy}
use Rattle.fc_spec.specs.requests.Request.{Stat}
use Rattle.fc_spec.specs.requests.Buckets.{Key}
use Rattle.fc_spec.specs.requests.Statistics.{Stats}
use Rattle.fc_spec.specs.requests.Combining.{combined}
use Rattle.fc_spec.specs.messages.KeyOrder.{key_cmp, same_key}
use Rattle.fc_partial.specs.Adding.{HasShape}
use Rattle.fc_partial.specs.Tallied.{Entry, Tallied}

-- what the key has, if it has something
abbrev pub entry_at : List Entry → Key → Option Stats
entry_at es k = lookup (same_key k) es

-- more statistics, combined with those that are there
abbrev pub with_more : List Stat → Option Stats → Stats → Stats
with_more ss None more = more
with_more ss (Some there) more = combined ss there more

-- the key has these more, and every other key has what it had
abbrev pub with_added : List Stat → List Entry → Key → Stats → List Entry
with_added ss es k more = insert_entry key_cmp es k (with_more ss (entry_at es k) more)

abbrev pub added : Tallied → Key → Stats → Tallied
added t k more = record { stats = t.stats; entries = with_added t.stats t.entries k more }

-- the same in terms of single keys
pub record AddsTo (old new : Tallied) (k : Key) (more : Stats) : Type 0 where
  pub there : entry_at new.entries k ≡ Some (with_more old.stats (entry_at old.entries k) more)
  pub others : (q : Key) → same_key q k ≡ false → entry_at new.entries q ≡ entry_at old.entries q

-- keys ascend, so that each stands once, and each has a value for each of the statistics
pub record IsTally (t : Tallied) : Type 0 where
  pub ascend : IsStrictlySortedBy key_cmp (keys_of t.entries)
  pub shaped : All (HasShape t.stats) (values_of t.entries)
