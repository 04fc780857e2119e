-- What values of statistics and keys stand for in the definitions.
use Rattle.fc_spec.specs.requests.Statistics as statistics
use Rattle.fc_spec.specs.requests.Buckets as definition
use Rattle.fc_base.specs.View.{val_view}
use Rattle.fc_partial.specs.declared.statistics.StatValue.{StatValue}
use Rattle.fc_partial.specs.declared.statistics.StatValue.TheVariants.{Number, Extreme}
use Rattle.fc_partial.specs.declared.key.Key.{Key}
use Rattle.fc_partial.specs.declared.key.Key.TheVariants as k

abbrev pub stat_value_view : StatValue → statistics.StatValue
stat_value_view (Number n) = statistics.number n
stat_value_view (Extreme o) = statistics.extreme o

abbrev pub key_view : Key → definition.Key
key_view (k.Value v) = definition.value (val_view v)
key_view k.Missing = definition.missing
key_view (k.Gap i) = definition.gap i
key_view k.Before = definition.before
key_view k.Between = definition.between
key_view k.After = definition.after
key_view k.Whole = definition.whole
