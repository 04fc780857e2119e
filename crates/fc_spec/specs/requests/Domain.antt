-- What a domain change makes of a bucket's places. Guide: JSON Faceting Domain Changes.
use Rattle.std.specs.Prelude.{List, Bool, not, ◌&&◌, if◌then◌else◌}
use Rattle.std.specs.List.{filter, list_any, list_all}
use Rattle.fc_spec.specs.words.Lists.{is_empty}
use Rattle.fc_spec.specs.queries.Query.{Query}
use Rattle.fc_spec.specs.queries.Matching.{matches}
use Rattle.fc_spec.specs.documents.World.{World, Place, places, same_block}
use Rattle.fc_spec.specs.requests.Request.{BlockStep, stay, parents, children, DomainChange}

-- y is the parent of p's block, and p a child in it
abbrev pub is_parent_of : Place → Place → Bool
is_parent_of y p = y.parent && not p.parent && same_block y p

-- the children whose parent is in Y and matches q
abbrev pub children_of : World → Query → List Place → List Place
children_of W q Y = filter (λ p. list_any (λ y. is_parent_of y p && matches q y.document) Y) (places W)

-- the parents that match q and in whose block a place of Y stands: themselves, or a child
abbrev pub parents_of : World → Query → List Place → List Place
parents_of W q Y = filter (λ p. p.parent && matches q p.document && list_any (same_block p) Y) (places W)

-- what a block step makes of Y
abbrev pub moved : World → BlockStep → List Place → List Place
moved W stay Y = Y
moved W (parents q) Y = parents_of W q Y
moved W (children q) Y = children_of W q Y

-- the places of Z whose document matches every one of the filters
abbrev pub filtered : List Query → List Place → List Place
filtered filters Z = filter (λ p. list_all (λ q. matches q p.document) filters) Z

-- what the change makes of X: where it excludes tags the base B stands in the place of X; then the block step, then the change's own filters
abbrev pub changed : World → (base : List Place) → DomainChange → List Place → List Place
changed W B change X = filtered change.filters (moved W change.block (if is_empty change.exclude then X else B))
