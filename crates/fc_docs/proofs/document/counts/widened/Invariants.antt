use Rattle.std.proofs.Common.{◌≡◌, take}
use Rattle.fc_docs.proofs.document.counts.widened.Given as goal

abbrev pub invariant-loop-field : goal.invariant-loop-field
invariant-loop-field l = l.many.items ≡ take l.field-index l.few
