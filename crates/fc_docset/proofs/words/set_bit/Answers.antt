use Rattle.fc_spec.proofs.documents.WordBits.{has_bit-set_one}
use Rattle.fc_docset.proofs.words.set_bit.Goals as goal

pub returns : goal.returns
returns c = λ k. has_bit-set_one c.args.words.now c.args.at k c.requires
