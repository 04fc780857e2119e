use Rattle.std.proofs.Common.{arith}
use Rattle.std.proofs.lemmas.Int.{ints}
use Rattle.fc_facet.proofs.kind.Range.low_end.Goals as goal

pub returns : goal.returns
returns c =
    let product = c.before_gap.ensures.product in
    rw (← product) (omega (arith, ints))
