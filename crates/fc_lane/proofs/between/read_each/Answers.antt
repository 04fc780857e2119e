use Rattle.std.proofs.Common.{arith}
use Rattle.std.specs.Prelude.{FitsSigned, pos}
use Rattle.std.specs.Int.{w64}
use Rattle.std.proofs.lemmas.List.Elements.{All-from_get_or}
use Rattle.fc_lane.proofs.between.read_each.Goals as goal

pub returns : goal.returns
returns c = All-from_get_or (FitsSigned w64) c.args.values.now (pos 0) (λ k within. c.loop-value.invariant k (omega arith))
