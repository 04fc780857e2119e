use Rattle.fc_docset.proofs.ChangedBits.{has_bit-clear_one}
use Rattle.fc_docset.proofs.words.clear_bit.Goals as goal

pub returns : goal.returns
returns c = λ k. has_bit-clear_one c.args.words.now c.args.at k c.requires
