-- What a request may be asked of.
use Rattle.std.specs.Prelude.{List, [], ◌∷◌, map, All}
use Rattle.fc_spec.specs.documents.World.{World}
use Rattle.fc_spec.specs.requests.ValidRequests.{IsSearchable}
use Rattle.fc_spec.specs.scripts.WorldLimits.{IsWithinLimits}
use Rattle.fc_request.specs.RequestView.{IsRoot, request_view}
use Rattle.fc_request.specs.declared.request.Request.{Request}
use Rattle.fc_store.specs.Generated.{Generated}

-- the world of generations: the blocks of each, in the order of the shards
abbrev pub world_of : List Generated → World
world_of gs = map (λ g. g.blocks) gs

-- a search can be made of the request by the schema of each, and they are within the limits together
pub record AreAskable (request : Request) (gs : List Generated) : Type 0 where
  pub root : IsRoot request.root
  pub valid : All (λ g. IsSearchable g.schema (request_view request)) gs
  pub limits : IsWithinLimits (world_of gs)

-- one of them, by itself
pub record IsAskable (request : Request) (g : Generated) : Type 0 where
  pub root : IsRoot request.root
  pub valid : IsSearchable g.schema (request_view request)
  pub limits : IsWithinLimits (g.blocks ∷ [])
