use Rattle.fc_docs.specs.View.{block_view}
use Rattle.fc_lines.proofs.AddingLines.{line_of_tokens}
use Rattle.fc_lines.proofs.line.adding.read_tokens.Goals as goal

pub returns-then-closes : goal.returns-then-closes
returns-then-closes c =
    let given = rw (c.if-closes.ensures) at (rw c.in-Some.is at c.in_ok-added.ensures) in
    rw c.if-not-opens.ensures (line_of_tokens c.args.schema.now c.in-Some.added.0 (block_view c.in-Some.added.1) _ given)
