-- Asks of buckets that are there in a request.
use Rattle.std.specs.Prelude.{IsTrue}
use Rattle.std.specs.List.{AllByRecursion}
use Rattle.fc_spec.specs.requests.Request.{Nodes}
use Rattle.fc_spec.specs.messages.Message.{Ask, first, more, way_of}
use Rattle.fc_spec.specs.laws.LacksLaws.{names_keys}

-- each step of each want names a facet among the nodes, and one of its keys
abbrev pub NamesKeys : Nodes → Ask → Type 0
NamesKeys nodes first = Unit {0}
NamesKeys nodes (more wants) = AllByRecursion (λ w. IsTrue (names_keys nodes (way_of w))) wants
