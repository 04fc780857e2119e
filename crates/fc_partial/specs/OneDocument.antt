-- The statistics of one document.
use Rattle.std.specs.Prelude.{pos, List, length, if◌then◌else◌}
use Rattle.fc_spec.specs.documents.Columns.{longs_in}
use Rattle.fc_spec.specs.documents.Val.{Val}
use Rattle.fc_spec.specs.requests.Request.{StatKind, sum, min, max, countvals, missing}
use Rattle.fc_spec.specs.requests.Statistics.{StatValue, number, extreme, total_of, least_of, greatest_of}
use Rattle.fc_spec.specs.words.Lists.{is_empty}

-- from its values in the field
abbrev pub statistic_of : StatKind → List Val → StatValue
statistic_of sum vs = number (total_of (longs_in vs))
statistic_of min vs = extreme (least_of (longs_in vs))
statistic_of max vs = extreme (greatest_of (longs_in vs))
statistic_of countvals vs = number (pos (length vs))
statistic_of missing vs = number (pos (if is_empty vs then 1 else 0))
