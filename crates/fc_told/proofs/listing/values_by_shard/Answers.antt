use Rattle.std.proofs.Common.{◌∙◌, ◌++◌, ap, sym}
use Rattle.fc_told.specs.Parts.{branches_view}
use Rattle.fc_told.specs.Trees.{values_listed}
use Rattle.fc_told.proofs.Levels.{node_is}
use Rattle.fc_told.proofs.Listed.{node_ascends, nothing_listed}
use Rattle.fc_told.proofs.listing.values_by_shard.Goals as goal

pub loop-key-init : goal.loop-key-init
loop-key-init c = λ i.
    ap (λ l. l ++ values_listed i (branches_view c.into_iter-key-iterator.result)) (nothing_listed c.new-by_shard.result c.new-by_shard.ensures.empty i)
    ∙ ap (λ es. values_listed i (branches_view es)) c.into_iter-key-iterator.ensures.into_iter_gives.0 ∙ ap (values_listed i) (sym (node_is c.args.told.now))

pub returns-clause-ascend : goal.returns-clause-ascend
returns-clause-ascend c = node_ascends c.args.told.now c.into_iter-key-iterator.ensures.into_iter_gives.5
