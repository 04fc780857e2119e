use Rattle.std.proofs.Common.{sym, ◌∙◌, map, ap}
use Rattle.fc_partial.specs.StatsView.{stats_view}
use Rattle.fc_coord.specs.Spots.{tree_at}
use Rattle.fc_coord.specs.TreeReading.{told_on}
use Rattle.fc_coord.proofs.ToldLists.{untold_on}
use Rattle.fc_coord.proofs.spot.Spot.told_on.Goals as goal

pub returns-in-None : goal.returns-in-None
returns-in-None c = ap (map (λ s. stats_view s.now)) c.new.ensures.items ∙ sym (ap (λ p. told_on c.args.shards.now (tree_at p)) c.in-None.is ∙ untold_on c.args.shards.now)
