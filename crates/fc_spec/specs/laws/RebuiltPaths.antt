-- Along paths without block steps the base is rebuilt to the path's places.
use Rattle.std.specs.Prelude.{◌≡◌, [], Bool, true, ◌&&◌, IsTrue}
use Rattle.fc_spec.specs.documents.World.{World}
use Rattle.fc_spec.specs.requests.Request.{Request}
use Rattle.fc_spec.specs.requests.Shape.{stays}
use Rattle.fc_spec.specs.requests.Paths.{Path, at_root, into, path_places, rebuilt}

-- no facet on the path has a block step
abbrev pub stays_along : Path → Bool
stays_along at_root = true
stays_along (into path f key) = stays_along path && stays f.change

-- with no more tags excluded it has exactly the places of the path, so that an exclusion of further tags takes away no place
abbrev pub RebuiltArePlaces : Type 0
RebuiltArePlaces = (r : Request) (W : World) (path : Path) → IsTrue (stays_along path) → path_places r W path ≡ rebuilt r W path []
