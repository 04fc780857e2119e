-- A value that is second on each shard and first over both.
use Rattle.std.specs.Prelude.{◌≡◌, ℕ, [], ◌∷◌, true, refl, codes}
use Rattle.fc_spec.specs.documents.World.{World}
use Rattle.fc_spec.specs.requests.Request.{terms, no_nodes, facet, Request}
use Rattle.fc_spec.specs.replies.Exact.{exact}
use Rattle.fc_spec.specs.replies.Distributed.{distributed}
use Rattle.fc_spec.specs.replies.Json.{facets_text}
use Rattle.fc_rows.proofs.Words.{written, labelled, limited_on, named, asking}

-- fields: id, cat
abbrev pub documents : World
documents =
    (labelled "1" "a" ∷ labelled "2" "a" ∷ labelled "3" "a" ∷ labelled "4" "b" ∷ labelled "5" "b" ∷ [])
    ∷ (labelled "6" "c" ∷ labelled "7" "c" ∷ labelled "8" "c" ∷ labelled "9" "b" ∷ labelled "10" "b" ∷ [])
    ∷ []

abbrev pub asking_for : (overrequest : ℕ) → Request
asking_for overrequest = asking (facet (named "c" (terms (record (limited_on 1 1) { refine = true; overrequest = overrequest; overrefine = 0 }))) no_nodes no_nodes)

-- no shard offers it
pub passed_over : facets_text (distributed (asking_for 0) documents) ≡ codes "{\"c\":{\"buckets\":[{\"count\":3,\"val\":\"a\"}]},\"count\":10}"
unfolding written
passed_over = refl

-- each shard offers one more than it is asked for
pub found : facets_text (distributed (asking_for 1) documents) ≡ codes "{\"c\":{\"buckets\":[{\"count\":4,\"val\":\"b\"}]},\"count\":10}"
unfolding written
found = refl

-- a single index has it first
pub exact_first : facets_text (exact (asking_for 0) documents) ≡ codes "{\"c\":{\"buckets\":[{\"count\":4,\"val\":\"b\"}]},\"count\":10}"
unfolding written
exact_first = refl
