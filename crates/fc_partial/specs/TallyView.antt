-- What the parts of a tally stand for.
use Rattle.std.specs.Prelude.{◌++◌, ℤ, List, map}
use Rattle.std.specs.BTreeMap.{BTreeMap}
use Rattle.std.specs.List.{AllByRecursion}
use Rattle.std.specs.Ordering.{int_cmp, on}
use Rattle.fc_spec.specs.documents.Val.{Text, text_cmp}
use Rattle.fc_spec.specs.messages.KeyOrder.{key_cmp}
use Rattle.fc_base.specs.StatisticView.{stat_view}
use Rattle.fc_partial.specs.declared.key.Key.{Key}
use Rattle.fc_partial.specs.declared.statistics.Stats.{Stats}
use Rattle.fc_partial.specs.declared.tally.Tally.TheInside.{Inside}
use Rattle.fc_partial.specs.View.{key_view}
use Rattle.fc_partial.specs.Tallied.{Entry, Tallied}
use Rattle.fc_partial.specs.TallyParts.{IsPart, IsBeyond, keyed, long_key, text_key}

-- integers, then texts, then the other keys
abbrev pub entries_view : BTreeMap ℤ Stats → BTreeMap Text Stats → BTreeMap Key Stats → List Entry
entries_view longs texts others = keyed long_key longs ++ (keyed text_key texts ++ keyed key_view others)

abbrev pub tally_view : Inside → Tallied
tally_view t = record { stats = map stat_view t.stats.items; entries = entries_view t.longs t.texts t.others }

-- each part is in order, and no value is among the other keys
pub record IsSound (t : Inside) : Type 0 where
  pub longs : IsPart int_cmp (map stat_view t.stats.items) t.longs
  pub texts : IsPart text_cmp (map stat_view t.stats.items) t.texts
  pub others : IsPart (on key_view key_cmp) (map stat_view t.stats.items) t.others
  pub beyond : AllByRecursion (λ e. IsBeyond e.0) (keyed key_view t.others)
