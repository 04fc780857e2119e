-- What is asked of the ranges of a request.
use Rattle.std.specs.Prelude.{◌<◌}
use Rattle.fc_spec.specs.requests.Request.{Kind, range, date_range, Nodes, no_nodes, statistic, facet}
use Rattle.fc_spec.specs.requests.Gaps.{gap_count}
use Rattle.fc_spec.specs.requests.DateGaps.{date_gap_count}
use Rattle.fc_spec.specs.requests.Buckets.{Key, gap}
use Rattle.fc_facet.specs.RangeGaps.{HasFewGaps, HasFewEdges}

-- of a range facet, that its gaps can be counted
abbrev pub IsCountable : Kind → Type 0
IsCountable (range g) = HasFewGaps g
IsCountable (date_range g) = HasFewEdges g
IsCountable _ = Unit {0}

-- of each range facet, at any depth, that its gaps can be counted
abbrev pub AreCountable : Nodes → Type 0
AreCountable no_nodes = Unit {0}
AreCountable (statistic name s rest) = AreCountable rest
AreCountable (facet f inner rest) = IsCountable f.kind × AreCountable inner × AreCountable rest

-- a gap of a range facet is one of those that are there
abbrev pub IsThere : Kind → Key → Type 0
IsThere (range g) (gap i) = i < gap_count g
IsThere (date_range g) (gap i) = i < date_gap_count g
IsThere _ _ = Unit {0}
