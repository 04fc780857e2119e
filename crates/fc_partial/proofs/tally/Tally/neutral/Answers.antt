use Rattle.fc_partial.proofs.TallyEntries.{is_tally}
use Rattle.fc_partial.proofs.tally.Tally.neutral.Goals as goal

pub returns-in_err-neutral-clause-tally : goal.returns-in_err-neutral-clause-tally
returns-in_err-neutral-clause-tally c = rw (← c.self.view_is) (is_tally c.self.inside c.self.invariant)

pub returns-clause-tally : goal.returns-clause-tally
returns-clause-tally c = rw (← c.self.view_is) (is_tally c.self.inside c.self.invariant)
