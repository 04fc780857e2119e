use Rattle.std.proofs.Common.{arith}
use Rattle.fc_lists.proofs.Cuts.{counts_up_is}
use Rattle.fc_lists.proofs.lists.counts_up.Goals as goal

pub returns : goal.returns
returns c = counts_up_is c.args.numbers.now (λ k within. c.loop-place.invariant k (omega arith))
