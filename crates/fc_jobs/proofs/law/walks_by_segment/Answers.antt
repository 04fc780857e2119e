use Rattle.fc_jobs.proofs.WalkedSets.{by_segment}
use Rattle.fc_jobs.proofs.law.walks_by_segment.Goals as goal

pub returns : goal.returns
returns c = by_segment
