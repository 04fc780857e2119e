-- That the gaps of ranges can be counted is shown in one way alone.
use Rattle.std.specs.Coded.{Unit-prop}
use Rattle.std.proofs.Props.{props}
use Rattle.fc_spec.specs.requests.Request.{Kind, terms, range, date_range, query, Nodes, no_nodes, statistic, facet}
use Rattle.fc_refine.specs.CountableRanges.{IsCountable, AreCountable}

countable_one : (k : Kind) → IsProp (IsCountable k)
countable_one (terms t) = Unit-prop
countable_one (range g) = hlevel props
countable_one (date_range g) = hlevel props
countable_one (query q) = Unit-prop

pub AreCountable-prop : (nodes : Nodes) → IsProp (AreCountable nodes)
AreCountable-prop no_nodes = Unit-prop
AreCountable-prop (statistic name s rest) = AreCountable-prop rest
AreCountable-prop (facet f inner rest) = hlevel (props, countable_one f.kind, AreCountable-prop inner, AreCountable-prop rest)
