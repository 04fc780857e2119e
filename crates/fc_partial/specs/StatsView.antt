-- What the statistics of a bucket stand for in the definitions.
use Rattle.std.specs.Prelude.{map}
use Rattle.fc_spec.specs.requests.Statistics as statistics
use Rattle.fc_partial.specs.View.{stat_value_view}
use Rattle.fc_partial.specs.declared.statistics.Stats.{Stats}

abbrev pub stats_view : Stats → statistics.Stats
stats_view s = record { count = s.count; values = map stat_value_view s.values.items }
