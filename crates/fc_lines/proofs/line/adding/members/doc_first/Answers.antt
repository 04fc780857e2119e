use Rattle.fc_lines.proofs.AddingLines.{document_first}
use Rattle.fc_lines.proofs.line.adding.members.doc_first.Goals as goal

pub returns-in-Some-shard_behind : goal.returns-in-Some-shard_behind
returns-in-Some-shard_behind c =
    let given = rw c.in-Some.is at c.in_ok-block.ensures.block in
    document_first c.args.schema.now _ _ _ _ _ given c.in-Some-shard_behind.ensures
