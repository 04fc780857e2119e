-- What values with their statistics stand for.
use Rattle.fc_spec.specs.requests.Ranks.{Entry}
use Rattle.fc_base.specs.View.{val_view}
use Rattle.fc_partial.specs.StatsView.{stats_view}
use Rattle.fc_refine.specs.declared.tops.Valued.{Valued}

abbrev pub valued_entry : Valued → Entry
valued_entry v = record { val = val_view v.val; stats = stats_view v.stats }
