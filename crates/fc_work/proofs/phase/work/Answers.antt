use Rattle.std.proofs.Common.{sym, subst}
use Rattle.std.specs.Prelude.{All}
use Rattle.fc_work.specs.Working.{CanWork}
use Rattle.fc_work.proofs.Phases.{can_work}
use Rattle.fc_work.proofs.phase.work.Goals as goal

pub work_all-requires-clause-can : goal.work_all-requires-clause-can
work_all-requires-clause-can g c κs within =
    subst (All (CanWork c.args.order.now c.args.asked.now.items)) (sym c.deref_mut.ensures.value)
    (can_work c.args.order.now c.args.asked.now.items c.args.openings.items c.args.names.now c.make_all.new.workers.items c.in_ok-make_all.ensures c.requires.ready c.requires.ask)
