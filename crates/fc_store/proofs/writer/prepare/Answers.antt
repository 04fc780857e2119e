use Rattle.std.proofs.Common.{rules, ◌≡◌, ◌+◌, ◌-◌, ◌<◌, drop, length, Some}
use Rattle.std.specs.Arc.{arc_value}
use Rattle.std.specs.List.{slice_get}
use Rattle.fc_spec.specs.documents.Operations.{after_ops}
use Rattle.fc_docs.specs.View.{batch_view}
use Rattle.fc_store.specs.Rule.{content}
use Rattle.fc_store.proofs.NextGeneration.{next_follows, next_within}
use Rattle.fc_store.proofs.Published.{waits_now}
use Rattle.fc_store.proofs.writer.prepare.Goals as goal

pub next-requires-clause-limits : goal.next-requires-clause-limits
next-requires-clause-limits c =
    let writer = c.args.writer.now in
    let x = content writer.desk.shown.value in
    let there : slice_get x.0.later (x.1.number - x.0.start.number) ≡ Some (batch_view c.batch.result.now) = search rules in
    search (rules, next_within x (batch_view c.batch.result.now) c.requires.batches.1 c.requires.led.charted there)

pub returns-clause-next : goal.returns-clause-next
returns-clause-next c =
    let writer = c.args.writer.now in
    let x = content writer.desk.shown.value in
    let made : arc_value c.in_ok-next.next ≡ record x.1 { number = x.1.number + 1; blocks = after_ops x.1.blocks (batch_view c.batch.result.now) } = search rules in
    let there : slice_get x.0.later (x.1.number - x.0.start.number) ≡ Some (batch_view c.batch.result.now) = search rules in
    let none : ¬ (0 < length (drop writer.behind writer.log.items)) = search rules in
    rw c.append.ensures.desk
    (waits_now arc_value x (drop writer.behind writer.log.items) _ c.in_ok-next.next _ none (next_follows x _ (batch_view c.batch.result.now) c.requires.led.charted there made) c.append.ensures.pending)
