use Rattle.fc_coord.proofs.AskLists.{wants_set}
use Rattle.fc_coord.proofs.asks.add_want.Goals as goal

pub returns : goal.returns
returns c = wants_set c.args.wants.now.items c.args.lack.shard c.index_mut.result.now c.push.new.self c.args.lack.want c.index_mut.ensures.value c.in_ok-push.ensures.items
