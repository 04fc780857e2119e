use Rattle.fc_run.proofs.scripts.Leaving.{refused_for_fault, refused_for_memory}
use Rattle.fc_run.proofs.run_script.refuse.Goals as goal

pub returns-in-Memory-clause-left : goal.returns-in-Memory-clause-left
returns-in-Memory-clause-left g c = refused_for_memory c.args.refusal (g.K.Sink.written c.args.sink.now) c.in-Memory.is

pub returns-in-Fault-clause-left : goal.returns-in-Fault-clause-left
returns-in-Fault-clause-left g c =
    refused_for_fault c.args.refusal c.in-Fault.fault c.status_of.result c.write_fault-written.result (g.K.Sink.written c.args.sink.now) (g.K.Sink.written c.write_fault-written.new.sink) c.in-Fault.is c.status_of.ensures
    c.write_fault-written.ensures.written
