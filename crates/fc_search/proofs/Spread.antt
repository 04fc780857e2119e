-- A request that is valid for a generation is spread.
use Rattle.std.proofs.Common.{◌≤◌, List, [], ◌∷◌, map, length, All, arith}
use Rattle.std.specs.Arc.{arc_value}
use Rattle.std.specs.declared.alloc.Global.{Global}
use Rattle.std.specs.declared.sync.Arc.{Arc}
use Rattle.std.proofs.lemmas.List.{length-map}
use Rattle.fc_spec.specs.requests.Request.{Request}
use Rattle.fc_spec.specs.requests.Spread.{IsSpread}
use Rattle.fc_spec.specs.requests.ValidRequests.{IsValidRequest}
use Rattle.fc_store.specs.Generated.{Generated}

pub spread_request : (r : Request) (gs : List (Arc Generated Global)) → All (λ g. IsValidRequest g.schema r) (map (arc_value {X = Generated}) gs) → 1 ≤ length gs → IsSpread r
spread_request r gs valid some = go (map (arc_value {X = Generated}) gs) valid (let long = length-map gs (arc_value {X = Generated}) in omega (arith, long, some))
  where
    go : (all : List Generated) → All (λ g. IsValidRequest g.schema r) all → 1 ≤ length all → IsSpread r
    go [] valids any = absurd (omega (arith, any))
    go (g ∷ all) valids any = (valids 0 g (omega arith)).spread
