-- The ranges of a valid request can be counted.
use Rattle.std.specs.Prelude.{Bool}
use Rattle.fc_spec.specs.documents.Schema.{Schema}
use Rattle.fc_spec.specs.requests.Request.{Kind, terms, range, date_range, query, Nodes, no_nodes, statistic, facet, Request}
use Rattle.fc_spec.specs.requests.ValidRequests.{IsValidKind, AreValidNodes, IsSearchable}
use Rattle.fc_refine.specs.CountableRanges.{IsCountable, AreCountable}

kind_countable : (s : Schema) (inner : Nodes) (k : Kind) → IsValidKind s inner k → IsCountable k
kind_countable s inner (terms t) valid = tt
kind_countable s inner (range g) valid = record { ordered = valid.ordered; forward = valid.forward; few = valid.few }
kind_countable s inner (date_range g) valid = record { some = valid.some; few = valid.few; ascending = valid.ascending }
kind_countable s inner (query q) valid = tt

nodes_countable : (s : Schema) (unmoved : Bool) (nodes : Nodes) → AreValidNodes s unmoved nodes → AreCountable nodes
nodes_countable s unmoved no_nodes valid = tt
nodes_countable s unmoved (statistic name st rest) valid = nodes_countable s unmoved rest valid.1
nodes_countable s unmoved (facet f inner rest) valid = (kind_countable s inner f.kind valid.0.kind, nodes_countable s _ inner valid.1, nodes_countable s unmoved rest valid.2)

pub valid_are_countable : (s : Schema) (r : Request) → IsSearchable s r → AreCountable r.nodes
valid_are_countable s r valid = nodes_countable s _ r.nodes valid.nodes
