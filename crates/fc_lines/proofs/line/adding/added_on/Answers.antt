use Rattle.std.proofs.Common.{◌≤◌, length, arith}
use Rattle.fc_docs.specs.View.{block_view}
use Rattle.fc_lines.proofs.AddingLines.{added_asked}
use Rattle.fc_lines.proofs.line.adding.added_on.Goals as goal

pub returns-clause-answer : goal.returns-clause-answer
returns-clause-answer c =
    let same = c.in-Ok.ensures.cases.0 in
    let short : length c.args.text.now ≤ 1_048_576 = omega arith in
    added_asked block_view c.args.schema.now c.args.text.now c.read_tokens.result short c.in-Ok.ensures.cases.1 (rw (c.in_ok-reader.ensures.ok, same) at c.read_tokens.ensures)
