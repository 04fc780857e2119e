-- The entries of a tally, by kind of key.
use Rattle.std.specs.Prelude.{ℤ, List, map, All}
use Rattle.std.specs.BTreeMap.{BTreeMap, insert_entry, is_at}
use Rattle.std.specs.List.Sorted.{IsStrictlySortedBy}
use Rattle.std.specs.Map.{lookup, keys_of, values_of}
use Rattle.std.specs.declared.cmp.Ordering.{Ordering}
use Rattle.fc_spec.specs.documents.Val.{Text, text, long}
use Rattle.fc_spec.specs.requests.Request.{Stat}
use Rattle.fc_spec.specs.requests.Buckets as definition
use Rattle.fc_spec.specs.requests.Statistics as statistics
use Rattle.fc_partial.specs.declared.statistics.Stats.{Stats}
use Rattle.fc_partial.specs.StatsView.{stats_view}
use Rattle.fc_partial.specs.Adding.{HasShape}
use Rattle.fc_partial.specs.Tallied.{Entry}
use Rattle.fc_partial.specs.Tallying.{with_more}

-- the key of an integer, and of a text
abbrev pub long_key : ℤ → definition.Key
long_key n = definition.value (long n)

abbrev pub text_key : Text → definition.Key
text_key t = definition.value (text t)

-- it is the key of no value
abbrev pub IsBeyond : definition.Key → Type 0
IsBeyond (definition.value v) = ⊥
IsBeyond _ = Unit {0}

-- the entries of one kind of key, with what their statistics stand for
abbrev pub seen_at : {K : Type 0} → BTreeMap K Stats → List (K × statistics.Stats)
seen_at m = map (λ e. (e.0, stats_view e.1)) m.entries

-- and with what their keys stand for
abbrev pub keyed : {K : Type 0} → (K → definition.Key) → BTreeMap K Stats → List Entry
keyed see m = map (λ e. (see e.0, stats_view e.1)) m.entries

-- the key has these more, and every other key has what it had
abbrev pub put_more : {K : Type 0} → (K → K → Ordering) → List Stat → List (K × statistics.Stats) → K → statistics.Stats → List (K × statistics.Stats)
put_more cmp ss es k more = insert_entry cmp es k (with_more ss (lookup (is_at (cmp k)) es) more)

-- keys ascend, so that each stands once, and each has a value for each of the statistics
pub record IsPart {K : Type 0} (cmp : K → K → Ordering) (ss : List Stat) (m : BTreeMap K Stats) : Type 0 where
  pub ordered : IsStrictlySortedBy cmp (keys_of m.entries)
  pub shaped : All (HasShape ss) (values_of (seen_at m))
