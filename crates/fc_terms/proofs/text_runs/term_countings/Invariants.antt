use Rattle.std.proofs.Common.{◌≡◌, ◌++◌, ◌<◌, All, length}
use Rattle.fc_docset.specs.Positions.{positions}
use Rattle.fc_terms.specs.Gathered.{AreGathered, terms_at}
use Rattle.fc_terms.specs.TermSpan.{IsTermNumber}
use Rattle.fc_terms.proofs.text_runs.term_countings.Given as goal

abbrev pub invariant-loop-at : goal.invariant-loop-at
invariant-loop-at l = record {
  gathered : AreGathered (terms_at l.column l.span.0 l.span.1) l.yielded l.countings;
  there : All (λ c. c.at < length l.column) l.countings;
  numbers : All (λ c. IsTermNumber l.column l.span.0 l.span.1 c.number) l.countings;
  left : l.yielded ++ l.at-iterator ≡ positions l.docs;
}
