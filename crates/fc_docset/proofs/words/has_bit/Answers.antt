use Rattle.std.proofs.Common.{◌/◌, ◌%◌, ◌==◌, ap, get_or}
use Rattle.std.proofs.lemmas.Nat.Bits.{shr_and_one}
use Rattle.fc_spec.specs.documents.Bits.{has_bit}
use Rattle.fc_docset.proofs.words.has_bit.Goals as goal

pub returns : goal.returns
unfolding has_bit
returns c = ap (λ bit. bit == 1) (shr_and_one (get_or c.args.words.now (c.args.at / 64) 0) (c.args.at % 64))
