-- The folded reply has the numbers of values and of buckets, and without limits it is that of a single index.
use Rattle.std.specs.Prelude.{◌≡◌, IsTrue}
use Rattle.fc_spec.specs.documents.World.{World, single}
use Rattle.fc_spec.specs.requests.Request.{Request}
use Rattle.fc_spec.specs.requests.Spread.{IsSpread}
use Rattle.fc_spec.specs.requests.Shape.{no_limits}
use Rattle.fc_spec.specs.replies.Exact.{exact}
use Rattle.fc_spec.specs.replies.Folded.{folded}
use Rattle.fc_spec.specs.replies.Replied.{replied}
use Rattle.fc_spec.specs.replies.Numbers.{numbered}

-- where numbers are asked for as they are spread, the printed reply is the distributed one with each number counted over places
abbrev pub FoldsIntoNumbers : Type 0
FoldsIntoNumbers = (r : Request) (W : World) → IsSpread r → replied r W ≡ numbered r W

-- where no terms facet has a limit, it is the reply of the single index with all the blocks, folded
abbrev pub FoldsSingleIndex : Type 0
FoldsSingleIndex = (r : Request) (W : World) → IsTrue (no_limits r.nodes) → replied r W ≡ folded r (exact r (single W))
