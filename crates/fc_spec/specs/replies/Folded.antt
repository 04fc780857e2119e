-- The folded reply: what is printed of the reply to a request in which the numbers of values and of buckets are asked for by facets of their own. Guide: JSON Facet API, "Stat Facet Functions" (`unique`), "Terms Facet" (`numBuckets`).
use Rattle.std.specs.Prelude.{ℕ, suc, pos, Bool, ◌&&◌, ◌==◌, if◌then◌else◌, Option, None, Some}
use Rattle.fc_spec.specs.documents.Val.{Text}
use Rattle.fc_spec.specs.words.Lists.{is_empty}
use Rattle.fc_spec.specs.requests.Request.{Show, its_buckets, its_number, number_beside, Nodes, no_nodes, statistic, facet, Request}
use Rattle.fc_spec.specs.requests.Spread.{show_first}
use Rattle.fc_spec.specs.replies.Reply.{listed, Bucket, bucket, Facets, no_facets, number, one, many, counted, Row, no_parts, part}

-- the nodes from the first facet on that is printed in a bucket, which may be empty
abbrev pub from_printed : (empty : Bool) → Nodes → Nodes
from_printed empty no_nodes = no_nodes
from_printed empty (statistic name s rest) = from_printed empty rest
from_printed empty (facet f inner rest) = if empty && is_empty f.change.exclude then from_printed empty rest else facet f inner rest

-- the nodes nested in the first, and those after it
abbrev pub inner_of : Nodes → Nodes
inner_of (facet f inner rest) = inner
inner_of _ = no_nodes

abbrev pub rest_of : Nodes → Nodes
rest_of (facet f inner rest) = rest
rest_of _ = no_nodes

-- how many buckets of a row are in the list
abbrev pub listed_in : Row → ℕ
listed_in no_parts = 0
listed_in (part listed b row) = suc (listed_in row)
listed_in (part _ b row) = listed_in row

-- the number that the first of these facets has for the one before them
abbrev pub number_for : Show → Facets → Option ℕ
number_for number_beside (many name row more) = Some (listed_in row)
number_for _ _ = None

-- with a number beside the first facet's row, where it is there
abbrev pub with_count : Option ℕ → Facets → Facets
with_count (Some n) (many name row more) = counted name n row more
with_count _ printed = printed

-- what is printed in the place of a row: the folded one, its number, or nothing, since its number stands beside the row before it
abbrev pub row_shown : Show → Option ℕ → Text → (row folded : Row) → Facets → Facets
row_shown its_buckets n name row folded more = with_count n (many name folded more)
row_shown its_number n name row folded more = number name (pos (listed_in row)) more
row_shown number_beside n name row folded more = more

abbrev mutual
  -- of a bucket with these nodes
  pub folded_bucket : Nodes → Bucket → Bucket
  folded_bucket nodes (bucket val count facets) = bucket val count (folded_facets (count == 0) nodes facets)

  pub folded_facets : (empty : Bool) → Nodes → Facets → Facets
  folded_facets empty nodes no_facets = no_facets
  folded_facets empty nodes (number name n more) = number name n (folded_facets empty nodes more)
  folded_facets empty nodes (one name b more) =
      let here = from_printed empty nodes in
      one name (folded_bucket (inner_of here) b) (folded_facets empty (rest_of here) more)
  folded_facets empty nodes (many name row more) =
      let here = from_printed empty nodes in
      row_shown (show_first here) (number_for (show_first (rest_of here)) more) name row (folded_row (inner_of here) row) (folded_facets empty (rest_of here) more)
  folded_facets empty nodes (counted name n row more) =
      let here = from_printed empty nodes in
      counted name n (folded_row (inner_of here) row) (folded_facets empty (rest_of here) more)

  pub folded_row : Nodes → Row → Row
  folded_row nodes no_parts = no_parts
  folded_row nodes (part spot b row) = part spot (folded_bucket nodes b) (folded_row nodes row)

-- the tree of a reply to the request, folded
abbrev pub folded : Request → Bucket → Bucket
folded r b = folded_bucket r.nodes b
