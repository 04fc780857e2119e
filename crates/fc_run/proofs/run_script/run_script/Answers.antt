use Rattle.std.proofs.Common.{sym, subst}
use Rattle.fc_spec.specs.scripts.AskedScripts.{asked_script}
use Rattle.fc_run.specs.Ending.{IsLeft, status_after}
use Rattle.fc_run.specs.Outcome.{Wrote}
use Rattle.fc_run.specs.declared.status.Status.TheVariants.{Done}
use Rattle.fc_run.proofs.scripts.Leaving.{left_lines, left_refused}
use Rattle.fc_run.proofs.scripts.Runs.{runnable_script}
use Rattle.fc_run.proofs.scripts.SearchNumbers.{few_spelled}
use Rattle.fc_run.proofs.run_script.run_script.Goals as goal

pub write_script-written-requires-clause-runnable : goal.write_script-written-requires-clause-runnable
write_script-written-requires-clause-runnable g c κs within =
    runnable_script c.run_laws.ensures (asked_script c.deref.result.now) c.in-Ok.script c.in-Ok.ensures.answer c.in-Ok.ensures.within (few_spelled c.run_laws.ensures.few c.deref.result.now) c.in-Ok.ensures.sound

pub returns-in-Ok-clause-left : goal.returns-in-Ok-clause-left
returns-in-Ok-clause-left g c =
    let old = g.K.Sink.written c.args.sink.now in
    let new = g.K.Sink.written c.write_script-written.new.sink in
    let before = g.B.Book.books c.args.book.now in
    let after = g.B.Book.books c.write_script-written.new.book in
    let ended = c.write_script-written.result in
    subst (λ status. Wrote old new (IsLeft status before after (asked_script c.args.bytes.items))) (sym c.status_of.ensures)
    (subst (λ bs. Wrote old new (IsLeft (status_after ended Done) before after (asked_script bs))) c.deref.ensures.value
    (left_lines c.run_laws.ensures (asked_script c.deref.result.now) c.in-Ok.script c.in-Ok.ensures.sound ended old new before after c.in-Ok.ensures.answer c.write_script-written.ensures.written))

pub returns-in-Err-clause-left : goal.returns-in-Err-clause-left
returns-in-Err-clause-left g c =
    let old = g.K.Sink.written c.args.sink.now in
    let new = g.K.Sink.written c.refuse.new.sink in
    let told = g.B.Book.books c.args.book.now in
    subst (λ bs. Wrote old new (IsLeft c.refuse.result told told (asked_script bs))) c.deref.ensures.value
    (left_refused (asked_script c.deref.result.now) c.in-Err.refusal c.refuse.result old new told told c.in-Err.ensures.answer c.refuse.ensures.left)
