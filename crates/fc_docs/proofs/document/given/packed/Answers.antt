use Rattle.std.specs.Vec.Iter.{into_iter_items}
use Rattle.fc_docs.specs.Direct.{given_view}
use Rattle.fc_docs.proofs.GivenSoFar.{one_more_yet}
use Rattle.fc_docs.proofs.document.given.packed.Goals as goal

pub loop-field-preserved : goal.loop-field-preserved
loop-field-preserved c =
    let before = rw c.in-Some.ensures.steps.0 at c.loop-field.invariant in
    let left = into_iter_items c.next.new.self in
    rw (c.in_ok-count.ensures, c.in_ok-push.ensures.items)
    (one_more_yet (given_view c.args.pairs.items) (given_view left) c.loop-field.counts c.loop-field.values.items c.in-Some.field c.in-Some.val before)
