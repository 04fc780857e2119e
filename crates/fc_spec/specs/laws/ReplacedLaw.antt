-- A request with query facets in the place of exact ones has their buckets.
use Rattle.std.specs.Prelude.{◌≡◌, ℤ, List, Bool, true, false, ◌||◌, None, IsTrue, All}
use Rattle.fc_spec.specs.documents.Val.{Text, same_text, Val}
use Rattle.fc_spec.specs.documents.Schema.{Schema}
use Rattle.fc_spec.specs.documents.ValidBlocks.{IsBlockOf}
use Rattle.fc_spec.specs.documents.World.{World}
use Rattle.fc_spec.specs.requests.ValidRequests.{IsValidRequest, IsSearchable}
use Rattle.fc_spec.specs.requests.Request.{Nodes, no_nodes, statistic, facet, Request}
use Rattle.fc_spec.specs.requests.Shape.{is_exact, no_exact}
use Rattle.fc_spec.specs.replies.Reply.{Bucket, bucket, Facets, no_facets, number, one, many, Row, no_parts, part}
use Rattle.fc_spec.specs.replies.Distributed.{distributed}
use Rattle.fc_spec.specs.replies.WithTops.{with_tops}
use Rattle.fc_spec.specs.replies.Tops.{tops_of, replaced}
use Rattle.fc_spec.specs.replies.Restored.{restored}

-- what is printed of a node: nothing, a number, one bucket or a row
pub data Front : Type 0 where
  nothing : Front
  a_number : ℤ → Front
  a_bucket : Bucket → Front
  a_row : Row → Front

-- before other facets
abbrev pub put_front : Text → Front → Facets → Facets
put_front name nothing more = more
put_front name (a_number n) more = number name n more
put_front name (a_bucket b) more = one name b more
put_front name (a_row row) more = many name row more

abbrev pub without_val : Bucket → Bucket
without_val (bucket val count facets) = bucket None count facets

-- each bucket of a row as one bucket, without its `val`
abbrev pub put_ones : Text → Row → Facets → Facets
put_ones name no_parts more = more
put_ones name (part spot b row) more = one name (without_val b) (put_ones name row more)

-- of an exact facet the buckets of its row, of another the same
abbrev pub put_replaced : (exact : Bool) → Text → Front → Facets → Facets
put_replaced true name (a_row row) more = put_ones name row more
put_replaced _ name front more = put_front name front more

-- node by node, the one prints what the other does, but for exact facets
abbrev pub AreReplaced : Nodes → Facets → Facets → Type 0
AreReplaced no_nodes A B = (A ≡ no_facets) × (B ≡ no_facets)
AreReplaced (statistic name s rest) A B = (x : Front) × (P : Facets) × (Q : Facets) × (A ≡ put_front name x P) × (B ≡ put_front name x Q) × AreReplaced rest P Q
AreReplaced (facet f inner rest) A B = (x : Front) × (P : Facets) × (Q : Facets) × (A ≡ put_front f.name x P) × (B ≡ put_replaced (is_exact f.kind) f.name x Q) × AreReplaced rest P Q

-- the same of two replies of the same count
abbrev pub IsReplacedReply : Nodes → Bucket → Bucket → Type 0
IsReplacedReply nodes (bucket v n A) (bucket w m B) = (v ≡ w) × (n ≡ m) × AreReplaced nodes A B

-- with the top values of the world, the distributed reply to the replaced request has the buckets of the exact facets
abbrev pub HasTopBuckets : Type 0
HasTopBuckets = (r : Request) (W : World) → IsReplacedReply r.nodes (with_tops r W) (distributed (replaced r (tops_of r W)) W)

-- a statistic among the nodes has the name
abbrev pub has_statistic : Text → Nodes → Bool
has_statistic name no_nodes = false
has_statistic name (statistic other s rest) = same_text name other || has_statistic name rest
has_statistic name (facet f inner rest) = has_statistic name rest

-- no statistic has the name of one before it
abbrev pub AreNamedApart : Nodes → Type 0
AreNamedApart no_nodes = Unit {0}
AreNamedApart (statistic name s rest) = (has_statistic name rest ≡ false) × AreNamedApart rest
AreNamedApart (facet f inner rest) = AreNamedApart rest

-- so the reply is put together again from it
abbrev pub RestoresReply : Type 0
RestoresReply = (r : Request) (W : World) → AreNamedApart r.nodes → restored r (tops_of r W) (distributed (replaced r (tops_of r W)) W) ≡ with_tops r W

-- whatever the values, none of its outermost facets is exact
abbrev pub ReplacedHaveNoExact : Type 0
ReplacedHaveNoExact = (r : Request) (vss : List (List Val)) → IsTrue (no_exact (replaced r vss).nodes)

-- every block of the world is one of the schema
abbrev pub HasBlocksOf : Schema → World → Type 0
HasBlocksOf s W = All (All (IsBlockOf s)) W

-- over documents of the schema the top values are values of their fields, so the replaced request of a valid one is valid but for names, which repeat
abbrev pub ReplacedAreSearchable : Type 0
ReplacedAreSearchable = (s : Schema) (r : Request) (W : World) → IsValidRequest s r → HasBlocksOf s W → IsSearchable s (replaced r (tops_of r W))
