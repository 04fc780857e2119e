use Rattle.fc_spec.proofs.requests.Statistics.{stats_over-append}
use Rattle.fc_spec.proofs.requests.StatisticsOfParts.{stats_over_parts}
use Rattle.fc_spec.proofs.statistics_combine.Goals as goal

pub returns-clause-lists : goal.returns-clause-lists
returns-clause-lists c = stats_over-append

pub returns-clause-parts : goal.returns-clause-parts
returns-clause-parts c = stats_over_parts
