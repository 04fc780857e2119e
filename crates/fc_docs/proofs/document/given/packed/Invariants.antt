use Rattle.std.specs.Vec.Iter.{into_iter_items}
use Rattle.fc_docs.specs.Direct.{given_view}
use Rattle.fc_docs.proofs.GivenSoFar.{SoFar}
use Rattle.fc_docs.proofs.document.given.packed.Given as goal

abbrev pub invariant-loop-field : goal.invariant-loop-field
invariant-loop-field l = SoFar (given_view l.fn.pairs.items) (given_view (into_iter_items l.field-iterator)) l.counts l.values.items
