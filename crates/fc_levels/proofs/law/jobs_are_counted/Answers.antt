use Rattle.fc_levels.proofs.CountedJobs.{jobs_are_counted}
use Rattle.fc_levels.proofs.law.jobs_are_counted.Goals as goal

pub returns : goal.returns
returns c = jobs_are_counted
