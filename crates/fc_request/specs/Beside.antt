-- Nodes with the facets that show the numbers of their buckets.
use Rattle.std.specs.Prelude.{List, [], ◌∷◌, Bool, true}
use Rattle.fc_spec.specs.documents.Val.{Text}
use Rattle.fc_spec.specs.requests.Request.{DomainChange, Show, its_buckets, Terms, terms, no_nodes}
use Rattle.fc_spec.specs.requests.RequestReading.{Node, of_facet}
use Rattle.fc_spec.specs.requests.Spread.{beside_terms}
use Rattle.fc_request.specs.NodeView.{Part}

-- the facet that shows the number of a terms facet's buckets beside them
abbrev pub shown_beside : Show → Text → DomainChange → Terms → List Part
shown_beside its_buckets name change t = (name, of_facet change (terms (beside_terms t)) no_nodes) ∷ []
shown_beside _ name change t = []

-- what stands behind a node, where its number is asked for
abbrev pub numbers_behind : (asked : Bool) → Text → Node → List Part
numbers_behind true name (of_facet change (terms t) inner) = shown_beside t.show name change t
numbers_behind _ name node = []

-- a node, and what stands behind it
abbrev pub with_numbers : (asked : Bool) → Part → List Part
with_numbers asked p = p ∷ numbers_behind asked p.0 p.1
