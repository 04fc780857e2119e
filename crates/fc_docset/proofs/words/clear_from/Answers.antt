use Rattle.fc_spec.proofs.documents.WordBits.{cleared_past, has_bit-cleared}
use Rattle.fc_docset.proofs.words.clear_from.Goals as goal

pub returns-then-used-ne0 : goal.returns-then-used-ne0
returns-then-used-ne0 c = λ k. has_bit-cleared c.args.words.now c.args.len k c.requires c.if-used-ne0.true

pub returns-else-used-ne0 : goal.returns-else-used-ne0
returns-else-used-ne0 c = λ k. cleared_past c.args.words.now c.args.len k c.requires c.if-used-ne0.false
