-- Where no terms facet has a limit, the distributed reply is that of a single index.
use Rattle.std.specs.Prelude.{◌≡◌, IsTrue}
use Rattle.fc_spec.specs.documents.World.{World, single}
use Rattle.fc_spec.specs.requests.Request.{Request}
use Rattle.fc_spec.specs.requests.Shape.{no_limits}
use Rattle.fc_spec.specs.replies.Exact.{exact}
use Rattle.fc_spec.specs.replies.Distributed.{distributed}

-- it is the exact reply over the same world
abbrev pub IsExactWithoutLimits : Type 0
IsExactWithoutLimits = (r : Request) (W : World) → IsTrue (no_limits r.nodes) → distributed r W ≡ exact r W

-- the exact reply does not depend on how the blocks are cut into shards
abbrev pub IsExactOverSingle : Type 0
IsExactOverSingle = (r : Request) (W : World) → exact r W ≡ exact r (single W)

-- so it is that of the single index with all the blocks
abbrev pub IsSingleWithoutLimits : Type 0
IsSingleWithoutLimits = (r : Request) (W : World) → IsTrue (no_limits r.nodes) → distributed r W ≡ exact r (single W)
