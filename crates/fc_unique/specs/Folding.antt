-- What is printed of the first facet of a reply, with what it shows and the nodes nested in it at hand.
use Rattle.std.specs.Prelude.{ℕ, Bool, true, false, not, ◌&&◌, Option}
use Rattle.fc_spec.specs.words.Lists.{is_empty}
use Rattle.fc_spec.specs.requests.Request.{Show, number_beside, Nodes}
use Rattle.fc_spec.specs.requests.RequestReading.{of_statistic, of_facet}
use Rattle.fc_spec.specs.replies.Reply.{Facets, no_facets, number, one, many, counted}
use Rattle.fc_spec.specs.replies.Folded.{folded_bucket, folded_row, row_shown}
use Rattle.fc_request.specs.NodeView.{Part}

-- it is a facet that is printed in a bucket, which may be empty
abbrev pub is_printed : (empty : Bool) → Part → Bool
is_printed empty (name, of_statistic s) = false
is_printed empty (name, of_facet change kind inner) = not (empty && is_empty change.exclude)

abbrev pub is_beside : Show → Bool
is_beside number_beside = true
is_beside _ = false

-- the first facet before others, where this number stands behind it
abbrev pub first_folded : Show → (inner : Nodes) → Option ℕ → (first more : Facets) → Facets
first_folded show inner n no_facets more = more
first_folded show inner n (number name k rest) more = number name k more
first_folded show inner n (one name b rest) more = one name (folded_bucket inner b) more
first_folded show inner n (many name row rest) more = row_shown show n name row (folded_row inner row) more
first_folded show inner n (counted name k row rest) more = counted name k (folded_row inner row) more
