use Rattle.std.proofs.Common.{arith}
use Rattle.fc_io.proofs.Known.{AppendsUpTo-more}
use Rattle.fc_io.proofs.writing.write_all.Goals as goal

pub loop-rest-preserved : goal.loop-rest-preserved
loop-rest-preserved g c = (
  AppendsUpTo-more _ (g.K.Sink.written c.loop-rest.sink) _ _ c.loop-rest.rest.now c.in-Took.n c.loop-rest.invariant.0 c.in-Took.ensures.appended,
  omega (arith, c.loop-rest.invariant.1, c.in-Took.ensures.never_falls),
)
