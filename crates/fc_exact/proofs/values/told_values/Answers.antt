use Rattle.std.proofs.Common.{◌∙◌, sym, subst}
use Rattle.fc_refine.specs.Grouped.{Ascend, map_view}
use Rattle.fc_exact.specs.ToldView.{count_view, lent_view}
use Rattle.fc_exact.proofs.ValueMaps.{values_are}
use Rattle.fc_exact.proofs.values.told_values.Goals as goal

pub returns-clause-values : goal.returns-clause-values
returns-clause-values c = c.in_ok-values.ensures ∙ values_are (lent_view c.args.told.now) (map_view count_view c.in_ok-by_value.by_value) c.in_ok-by_value.ensures

pub returns-clause-ascend : goal.returns-clause-ascend
returns-clause-ascend c = subst Ascend (sym c.in_ok-values.ensures) c.in_ok-by_value.ensures.ascend
