use Rattle.std.proofs.Common.{subst}
use Rattle.fc_spec.specs.scripts.AskedScripts.{asked_script}
use Rattle.fc_demo.specs.Demo.{demo_script}
use Rattle.fc_run.specs.Ending.{IsLeft}
use Rattle.fc_run.specs.Outcome.{Wrote}
use Rattle.fc_run.proofs.scripts.Leaving.{left_by}
use Rattle.fc_run.proofs.sources.run_demo.Goals as goal

pub returns-in-Ok-clause-left : goal.returns-in-Ok-clause-left
returns-in-Ok-clause-left g c =
    let old = g.K.Sink.written c.args.sink.now in
    let new = g.K.Sink.written c.run_script.new.sink in
    let before = g.B.Book.books c.args.book.now in
    let after = g.B.Book.books c.run_script.new.book in
    left_by c.run_script.result (demo_script c.args.documents) old new before after (subst (λ bs. Wrote old new (IsLeft c.run_script.result before after (asked_script bs))) c.in-Ok.ensures c.run_script.ensures.left)
