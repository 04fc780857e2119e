-- A value that a shard does not offer has a short count, unless it is refined.
use Rattle.std.specs.Prelude.{◌≡◌, [], ◌∷◌, true, refl, codes}
use Rattle.fc_spec.specs.documents.World.{World}
use Rattle.fc_spec.specs.requests.Request.{Terms, terms, no_nodes, facet, Request}
use Rattle.fc_spec.specs.replies.Exact.{exact}
use Rattle.fc_spec.specs.replies.Distributed.{distributed}
use Rattle.fc_spec.specs.replies.Json.{facets_text}
use Rattle.fc_rows.proofs.Words.{written, labelled, limited_on, named, asking}

-- fields: id, cat
abbrev pub documents : World
documents =
    (labelled "1" "a" ∷ labelled "2" "a" ∷ labelled "3" "a" ∷ labelled "4" "b" ∷ labelled "5" "b" ∷ [])
    ∷ (labelled "6" "c" ∷ labelled "7" "c" ∷ labelled "8" "c" ∷ labelled "9" "a" ∷ [])
    ∷ []

abbrev pub asking_one : Terms → Request
asking_one t = asking (facet (named "c" (terms t)) no_nodes no_nodes)

-- each shard offers one value
abbrev pub first_alone : Terms
first_alone = record (limited_on 1 1) { overrequest = 0 }

pub short_count : facets_text (distributed (asking_one first_alone) documents) ≡ codes "{\"c\":{\"buckets\":[{\"count\":3,\"val\":\"a\"}]},\"count\":9}"
unfolding written
short_count = refl

-- as a single index has it
pub exact_count : facets_text (exact (asking_one first_alone) documents) ≡ codes "{\"c\":{\"buckets\":[{\"count\":4,\"val\":\"a\"}]},\"count\":9}"
unfolding written
exact_count = refl

-- its count is then asked of the shard that did not offer it
abbrev pub refined : Terms
refined = record first_alone { refine = true; overrefine = 0 }

pub refined_count : facets_text (distributed (asking_one refined) documents) ≡ codes "{\"c\":{\"buckets\":[{\"count\":4,\"val\":\"a\"}]},\"count\":9}"
unfolding written
refined_count = refl

-- `mincount` plays no part in offering, and is held against the refined count
pub refined_mincount : facets_text (distributed (asking_one (record refined { mincount = 4 })) documents) ≡ codes "{\"c\":{\"buckets\":[{\"count\":4,\"val\":\"a\"}]},\"count\":9}"
unfolding written
refined_mincount = refl

pub short_mincount : facets_text (distributed (asking_one (record first_alone { mincount = 4 })) documents) ≡ codes "{\"c\":{\"buckets\":[]},\"count\":9}"
unfolding written
short_mincount = refl
