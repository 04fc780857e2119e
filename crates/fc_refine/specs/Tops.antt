-- What a shard lists of a tally.
use Rattle.std.specs.Prelude.{ℕ, List, [], ◌∷◌, ◌++◌, map, Bool, true, false, not, Option}
use Rattle.std.specs.List.{filter}
use Rattle.fc_spec.specs.requests.Buckets.{Key, value, missing}
use Rattle.fc_spec.specs.requests.Ranks.{Entry, below_rank}
use Rattle.fc_spec.specs.requests.Request.{Sort}
use Rattle.fc_spec.specs.requests.Statistics.{Stats}
use Rattle.fc_spec.specs.messages.Message.{Partials, no_partials, partial, no_rows}
use Rattle.fc_spec.specs.messages.MessageShape.{is_value}
use Rattle.fc_partial.specs.BucketView.{Part}
use Rattle.fc_partial.specs.Tallied as tally

-- a key that buckets of a terms facet may have
abbrev pub is_value_or_missing : Key → Bool
is_value_or_missing (value v) = true
is_value_or_missing missing = true
is_value_or_missing _ = false

-- the entries of the values in a tally
abbrev pub with_value : Key → Stats → List Entry → List Entry
with_value (value v) stats es = record { val = v; stats = stats } ∷ es
with_value _ stats es = es

abbrev pub values_of_tally : List tally.Entry → List Entry
values_of_tally [] = []
values_of_tally (t ∷ ts) = with_value t.0 t.1 (values_of_tally ts)

-- what is no value
abbrev pub others_of_tally : List tally.Entry → List tally.Entry
others_of_tally ts = filter (λ t. not (is_value t.0)) ts

abbrev pub of_entry : Entry → tally.Entry
of_entry e = (value e.val, e.stats)

-- the values whose rank among them is below the bound, in index order, and behind them what is no value
abbrev pub top_of : Sort → Option ℕ → List tally.Entry → List tally.Entry
top_of s bound ts = map of_entry (below_rank s bound (values_of_tally ts)) ++ others_of_tally ts

-- the keys of buckets with their statistics
abbrev pub entries_in : Partials → List tally.Entry
entries_in no_partials = []
entries_in (partial key stats rows rest) = (key, stats) ∷ entries_in rest

-- a bucket with nothing nested
abbrev pub bare_of : tally.Entry → Part
bare_of t = record { key = t.0; stats = t.1; rows = no_rows }
