use Rattle.json.specs.Reads.{token_of}
use Rattle.fc_docs.proofs.SingleTokens.{single_spelled}
use Rattle.fc_docs.proofs.direct.fields.pass_over.Goals as goal

pub returns-in-Some-clause-spells : goal.returns-in-Some-clause-spells
returns-in-Some-clause-spells c = single_spelled c.is_single.result (token_of c.in-Some.token) c.args.reader.now c.next.new.self c.is_single.ensures c.in-Some.ensures.value
