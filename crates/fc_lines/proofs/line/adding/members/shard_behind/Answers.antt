use Rattle.std.proofs.Common.{arith}
use Rattle.fc_lines.proofs.AddingLines.{no_shard, one_shard}
use Rattle.fc_lines.proofs.line.adding.members.shard_behind.Goals as goal

pub returns-in-End : goal.returns-in-End
returns-in-End c =
    let first = rw c.in-End.is at c.in_ok-next_part.ensures in
    rw first (no_shard c.args.schema.now c.next_part.new.reader (omega arith))

pub returns-then-ends : goal.returns-then-ends
returns-then-ends c =
    let first = rw c.in-Shard.is at c.in_ok-next_part.ensures in
    let given = rw (c.if-ends.ensures, c.shards-shards.ensures.count) at c.in_ok-shard-in-Shard.ensures in
    rw first (one_shard c.args.schema.now _ _ _ given)
