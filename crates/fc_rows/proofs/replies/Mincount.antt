-- A shard offers before the least count is asked for.
use Rattle.std.specs.Prelude.{◌≡◌, true, [], ◌∷◌, refl, codes}
use Rattle.fc_spec.specs.documents.World.{World}
use Rattle.fc_spec.specs.requests.Request.{Terms, terms, no_nodes, facet, Request}
use Rattle.fc_spec.specs.replies.Exact.{exact}
use Rattle.fc_spec.specs.replies.Distributed.{distributed}
use Rattle.fc_spec.specs.replies.Json.{facets_text}
use Rattle.fc_rows.proofs.Words.{written, labelled, index_asc, limited_on, named, asking}

-- fields: id, cat
abbrev pub documents : World
documents = (labelled "1" "a" ∷ labelled "2" "b" ∷ labelled "3" "b" ∷ labelled "4" "c" ∷ labelled "5" "c" ∷ []) ∷ []

abbrev pub first_of_two : Terms
first_of_two = record (limited_on 1 1) { sort = index_asc; mincount = 2 }

abbrev pub asking_one : Terms → Request
asking_one t = asking (facet (named "c" (terms t)) no_nodes no_nodes)

-- a alone is offered, and its count is too small
pub nothing_left : facets_text (distributed (asking_one (record first_of_two { overrequest = 0 })) documents) ≡ codes "{\"c\":{\"buckets\":[]},\"count\":5}"
unfolding written
nothing_left = refl

-- more are offered
pub next_printed : facets_text (distributed (asking_one first_of_two) documents) ≡ codes "{\"c\":{\"buckets\":[{\"count\":2,\"val\":\"b\"}]},\"count\":5}"
unfolding written
next_printed = refl

-- a single index passes over what is too small
pub next_printed_exact : facets_text (exact (asking_one (record first_of_two { overrequest = 0 })) documents) ≡ codes "{\"c\":{\"buckets\":[{\"count\":2,\"val\":\"b\"}]},\"count\":5}"
unfolding written
next_printed_exact = refl

-- without refining every candidate is chosen, whatever the second over-number
pub all_chosen : facets_text (distributed (asking_one (record first_of_two { overrefine = 0 })) documents) ≡ codes "{\"c\":{\"buckets\":[{\"count\":2,\"val\":\"b\"}]},\"count\":5}"
unfolding written
all_chosen = refl

-- with refining a alone is chosen, and its count is too small
pub one_chosen : facets_text (distributed (asking_one (record first_of_two { refine = true; overrefine = 0 })) documents) ≡ codes "{\"c\":{\"buckets\":[]},\"count\":5}"
unfolding written
one_chosen = refl
