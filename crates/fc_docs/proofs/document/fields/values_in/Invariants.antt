use Rattle.std.proofs.Common.{◌≡◌}
use Rattle.fc_docs.specs.Fields.{values_at}
use Rattle.fc_docs.proofs.document.fields.values_in.Given as goal

abbrev pub invariant-loop-given : goal.invariant-loop-given
invariant-loop-given l = values_at l.given-iterator l.field.0 ≡ values_at l.fn.fields l.field.0
