use Rattle.fc_exact.proofs.Heard.{starts_hearing, goes_on_hearing, ends_with_tops}
use Rattle.fc_exact.proofs.laws.hearing_gives_tops.Goals as goal

pub returns-clause-start : goal.returns-clause-start
returns-clause-start c = starts_hearing

pub returns-clause-taken : goal.returns-clause-taken
returns-clause-taken c = goes_on_hearing

pub returns-clause-tops : goal.returns-clause-tops
returns-clause-tops c = ends_with_tops
