use Rattle.std.proofs.Common.{arith}
use Rattle.fc_script.proofs.FewCommits.{few_at}
use Rattle.fc_script.proofs.gather.shards.commits.Goals as goal

pub overflow_cast-len : goal.overflow_cast-len
overflow_cast-len c = let few = few_at c.args.shards.now c.loop-shard.shard-index c.shard-item.result c.requires c.loop-shard-test.true c.shard-item.is in omega (arith, few, c.len.ensures)
