use Rattle.std.proofs.Common.{arith}
use Rattle.fc_lists.proofs.Marks.{same_bits}
use Rattle.fc_lists.proofs.bits.copy_bits.Goals as goal

pub returns : goal.returns
returns c = same_bits c.loop-i.into c.args.words.now (omega arith) (λ k within. c.loop-i.invariant k (omega arith))
