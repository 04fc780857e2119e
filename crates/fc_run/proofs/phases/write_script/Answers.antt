use Rattle.std.proofs.Common.{◌≡◌, ◌+◌, ◌∷◌, [], Vec, Global, Ok, Err, length, map, sym, ◌∙◌, subst, arith, rules}
use Rattle.std.proofs.lemmas.Grind.{common_steps}
use Rattle.std.proofs.lemmas.List.{length-append}
use Rattle.fc_spec.specs.replies.Replied.{replied}
use Rattle.fc_spec.specs.scripts.SearchLines.{ArePhaseLines}
use Rattle.fc_script.specs.PartsView.{search_view}
use Rattle.fc_run.specs.Booking.{AreBookedLines}
use Rattle.fc_run.specs.Ending.{WritesNext}
use Rattle.fc_run.specs.Phased.{CanRun, chartered_batches, numbers_before}
use Rattle.fc_run.specs.Progress.{progress_of}
use Rattle.fc_run.specs.declared.commits.Committed.{Committed}
use Rattle.fc_run.proofs.scripts.Going.{Going, few_own, first_front, front_stopped, going_first, going_last, going_next, stopped}
use Rattle.fc_run.proofs.scripts.PhaseLoop.{can_run}
use Rattle.fc_run.proofs.phases.write_script.Goals as goal

pub loop-phase-init : goal.loop-phase-init
loop-phase-init g c =
    let s = c.args.script in
    let own = map progress_of c.in_ok-shards.shards.items in
    let old = g.K.Sink.written c.args.sink.now in
    let begun = g.B.Book.books c.args.book.now in
    let left : c.into_iter-phase-iterator.result.rest.items ≡ s.phases.items = first_of (search rules, grind (arith, common_steps)) in
    record {
      going = subst (λ ps. Going s 0 ps own 0 old old begun begun) (sym left) (going_first s own old begun c.requires.runnable c.in_ok-shards.ensures);
      faults = omega arith;
    }

pub overflow_cast-many : goal.overflow_cast-many
overflow_cast-many g c =
    let s = c.args.script in
    let p = c.in-Some.phase in
    let ps = c.next.new.self.rest.items in
    let own = map progress_of c.loop-phase.shards.items in
    let done = length c.loop-phase.yielded in
    let first = c.loop-phase.first in
    let old = g.K.Sink.written c.args.sink.now in
    let new = g.K.Sink.written c.loop-phase.sink in
    let begun = g.B.Book.books c.args.book.now in
    let told = g.B.Book.books c.loop-phase.book in
    let now : Going s done (p ∷ ps) own first old new begun told = subst (λ l. Going s done l own first old new begun told) c.in-Some.ensures.steps.0 c.loop-phase.invariant.going in
    let few = few_own first p ps now.few in
    omega (arith, few, c.len-many.ensures)

pub write_phase-requires-clause-can : goal.write_phase-requires-clause-can
write_phase-requires-clause-can g c κs within =
    let s = c.args.script in
    let p = c.in-Some.phase in
    let ps = c.next.new.self.rest.items in
    let own = map progress_of c.loop-phase.shards.items in
    let done = length c.loop-phase.yielded in
    let first = c.loop-phase.first in
    let old = g.K.Sink.written c.args.sink.now in
    let new = g.K.Sink.written c.loop-phase.sink in
    let begun = g.B.Book.books c.args.book.now in
    let told = g.B.Book.books c.loop-phase.book in
    let now : Going s done (p ∷ ps) own first old new begun told = subst (λ l. Going s done l own first old new begun told) c.in-Some.ensures.steps.0 c.loop-phase.invariant.going in
    subst (λ ns. CanRun own (length ns) p) (sym c.deref.ensures.value) (can_run s done now.before p ps own now.lines c.requires.runnable now.between)

pub write_phase-requires-clause-numbers : goal.write_phase-requires-clause-numbers
write_phase-requires-clause-numbers g c κs within =
    let s = c.args.script in
    let p = c.in-Some.phase in
    let ps = c.next.new.self.rest.items in
    let own = map progress_of c.loop-phase.shards.items in
    let done = length c.loop-phase.yielded in
    let first = c.loop-phase.first in
    let old = g.K.Sink.written c.args.sink.now in
    let new = g.K.Sink.written c.loop-phase.sink in
    let begun = g.B.Book.books c.args.book.now in
    let told = g.B.Book.books c.loop-phase.book in
    let now : Going s done (p ∷ ps) own first old new begun told = subst (λ l. Going s done l own first old new begun told) c.in-Some.ensures.steps.0 c.loop-phase.invariant.going in
    few_own first p ps now.few

pub overflow_add-first : goal.overflow_add-first
overflow_add-first g c =
    let s = c.args.script in
    let p = c.in-Some.phase in
    let ps = c.next.new.self.rest.items in
    let own = map progress_of c.loop-phase.shards.items in
    let done = length c.loop-phase.yielded in
    let first = c.loop-phase.first in
    let old = g.K.Sink.written c.args.sink.now in
    let new = g.K.Sink.written c.loop-phase.sink in
    let begun = g.B.Book.books c.args.book.now in
    let told = g.B.Book.books c.loop-phase.book in
    let now : Going s done (p ∷ ps) own first old new begun told = subst (λ l. Going s done l own first old new begun told) c.in-Some.ensures.steps.0 c.loop-phase.invariant.going in
    let few = few_own first p ps now.few in
    omega (arith, few, c.len-many.ensures)

pub loop-phase-preserved : goal.loop-phase-preserved
loop-phase-preserved g c =
    let s = c.args.script in
    let p = c.in-Some.phase in
    let ps = c.next.new.self.rest.items in
    let own = map progress_of c.loop-phase.shards.items in
    let done = length c.loop-phase.yielded in
    let first = c.loop-phase.first in
    let old = g.K.Sink.written c.args.sink.now in
    let new = g.K.Sink.written c.loop-phase.sink in
    let begun = g.B.Book.books c.args.book.now in
    let told = g.B.Book.books c.loop-phase.book in
    let now : Going s done (p ∷ ps) own first old new begun told = subst (λ l. Going s done l own first old new begun told) c.in-Some.ensures.steps.0 c.loop-phase.invariant.going in
    let later = g.K.Sink.written c.write_phase.new.sink in
    let after = g.B.Book.books c.write_phase.new.book in
    let made = c.in_ok-shards-2.shards in
    let shards = map progress_of made.items in
    let lines : WritesNext {A = Vec Committed Global} (Ok made) new later (AreBookedLines {A = Vec Committed Global} (Ok made) first told after (ArePhaseLines replied (chartered_batches own p.commits.items) p.commits.items (λ session. numbers_before own) (map (search_view s.sessions.items done) p.searches.items))) =
    subst (λ ss. WritesNext {A = Vec Committed Global} (Ok made) new later (AreBookedLines {A = Vec Committed Global} (Ok made) first told after (ArePhaseLines replied (chartered_batches own p.commits.items) p.commits.items (λ session. numbers_before own) (map (search_view ss done) p.searches.items)))) c.deref.ensures.value
    (c.in_ok-shards-2.ensures.written done) in
    let falls = c.in_ok-shards-2.ensures.never_falls in
    let before = c.loop-phase.invariant.faults in
    record {
      going = subst (λ n. Going s n ps shards (first + c.len-many.result) old later begun after) (sym (length-append c.loop-phase.yielded (p ∷ [])))
          (going_next s done p ps own first old new later begun told after c.requires.runnable now made shards c.len-many.result c.in_ok-shards-2.ensures.shards (c.len-many.ensures ∙ p.searches.ok.0) lines);
      faults = omega (arith, falls, before);
    }

pub returns-in_err-shards-clause-written : goal.returns-in_err-shards-clause-written
returns-in_err-shards-clause-written g c =
    let old = g.K.Sink.written c.args.sink.now in
    let begun = g.B.Book.books c.args.book.now in
    stopped c.args.script c.from_residual.result old old begun begun c.from_residual.ensures.0 (first_front c.args.script old begun c.requires.runnable)

pub returns-in_err-replies-clause-written : goal.returns-in_err-replies-clause-written
returns-in_err-replies-clause-written g c =
    let old = g.K.Sink.written c.args.sink.now in
    let begun = g.B.Book.books c.args.book.now in
    stopped c.args.script c.from_residual-in_err-replies.result old old begun begun c.from_residual-in_err-replies.ensures.0 (first_front c.args.script old begun c.requires.runnable)

pub returns-in_err-shards-2-clause-written : goal.returns-in_err-shards-2-clause-written
returns-in_err-shards-2-clause-written g c =
    let s = c.args.script in
    let p = c.in-Some.phase in
    let ps = c.next.new.self.rest.items in
    let own = map progress_of c.loop-phase.shards.items in
    let done = length c.loop-phase.yielded in
    let first = c.loop-phase.first in
    let old = g.K.Sink.written c.args.sink.now in
    let new = g.K.Sink.written c.loop-phase.sink in
    let begun = g.B.Book.books c.args.book.now in
    let told = g.B.Book.books c.loop-phase.book in
    let now : Going s done (p ∷ ps) own first old new begun told = subst (λ l. Going s done l own first old new begun told) c.in-Some.ensures.steps.0 c.loop-phase.invariant.going in
    let later = g.K.Sink.written c.write_phase.new.sink in
    let after = g.B.Book.books c.write_phase.new.book in
    let stop = c.in_err-shards-2.field-0.0 in
    let lines : WritesNext {A = Vec Committed Global} (Err stop) new later (AreBookedLines {A = Vec Committed Global} (Err stop) first told after (ArePhaseLines replied (chartered_batches own p.commits.items) p.commits.items (λ session. numbers_before own) (map (search_view s.sessions.items done) p.searches.items))) =
    subst (λ ss. WritesNext {A = Vec Committed Global} (Err stop) new later (AreBookedLines {A = Vec Committed Global} (Err stop) first told after (ArePhaseLines replied (chartered_batches own p.commits.items) p.commits.items (λ session. numbers_before own) (map (search_view ss done) p.searches.items)))) c.deref.ensures.value
    (c.in_err-shards-2.ensures.written done) in
    stopped s c.from_residual-in_err-shards-2.result old later begun after c.from_residual-in_err-shards-2.ensures.0
    (front_stopped s done p ps own first old new later begun told after c.requires.runnable now (Vec Committed Global) stop lines)

pub returns-clause-written : goal.returns-clause-written
returns-clause-written g c =
    let left : c.loop-phase.phase-iterator.rest.items ≡ [] = first_of (search rules, grind (arith, common_steps)) in
    going_last c.args.script (length c.loop-phase.yielded) c.loop-phase.phase-iterator.rest.items (map progress_of c.loop-phase.shards.items) c.loop-phase.first (g.K.Sink.written c.args.sink.now) (g.K.Sink.written c.loop-phase.sink)
    (g.B.Book.books c.args.book.now) (g.B.Book.books c.loop-phase.book) left c.loop-phase.invariant.going
