use Rattle.std.proofs.Common.{◌≤◌}
use Rattle.fc_docs.proofs.document.given.fields_in.Given as goal

abbrev pub invariant-loop-field : goal.invariant-loop-field
invariant-loop-field l = l.count ≤ l.field-index
