use Rattle.std.proofs.Common.{unwrap_or, ap, ◌∙◌}
use Rattle.fc_units.proofs.LeastUnits.{count_is}
use Rattle.fc_units.proofs.leasts.count_at.Goals as goal

pub returns : goal.returns
returns c = c.unwrap_or.ensures ∙ ap (λ o. unwrap_or o 0) c.copied.ensures ∙ count_is c.args.least.now c.args.number c.get.result c.get.ensures.lookup
