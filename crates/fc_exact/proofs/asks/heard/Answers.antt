use Rattle.std.proofs.Common.{ap, ◌∙◌}
use Rattle.std.specs.Prelude.{slice_set}
use Rattle.fc_exact.specs.View.{asks_view}
use Rattle.fc_exact.proofs.AskLists.{asks_set}
use Rattle.fc_exact.proofs.asks.heard.Goals as goal

pub returns-clause-asks : goal.returns-clause-asks
returns-clause-asks c = ap (λ o. asks_view (slice_set c.args.asks.now.items c.args.shard o)) c.take.ensures.after ∙ asks_set c.args.asks.now.items c.args.shard
