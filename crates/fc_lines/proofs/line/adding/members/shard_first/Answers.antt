use Rattle.fc_lines.proofs.AddingLines.{document_behind}
use Rattle.fc_lines.proofs.line.adding.members.shard_first.Goals as goal

pub returns-then-ends : goal.returns-then-ends
returns-then-ends c =
    let key = rw c.in-Some-Doc.field-0-is at c.in-Some-Doc.ensures in
    let shard = rw (key, c.shards.ensures.count) at c.in-Some.ensures in
    let given = rw (c.if-ends.ensures) at (rw c.in-Some-2.is at c.in_ok-block.ensures.block) in
    document_behind c.args.schema.now _ _ _ _ _ shard given
