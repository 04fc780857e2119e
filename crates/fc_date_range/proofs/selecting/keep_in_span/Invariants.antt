use Rattle.std.proofs.Common.{◌≡◌, ◌++◌, map}
use Rattle.fc_column.specs.Terms.{has_from_to, ordinals_in}
use Rattle.fc_docset.specs.Positions.{positions}
use Rattle.fc_range.proofs.Selected.{HasPicked}
use Rattle.fc_date_range.proofs.selecting.keep_in_span.Given as goal

abbrev pub invariant-loop-at : goal.invariant-loop-at
invariant-loop-at l = record {
  made : HasPicked (map (λ texts. has_from_to l.span.from l.span.past (ordinals_in l.column texts)) l.column) l.yielded l.into;
  left : l.yielded ++ l.at-iterator ≡ positions l.docs;
}
