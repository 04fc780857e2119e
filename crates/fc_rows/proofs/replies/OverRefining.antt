-- How many candidates are refined.
use Rattle.std.specs.Prelude.{◌≡◌, ℕ, [], ◌∷◌, true, refl, codes}
use Rattle.fc_spec.specs.documents.World.{World}
use Rattle.fc_spec.specs.requests.Request.{terms, no_nodes, facet, Request}
use Rattle.fc_spec.specs.replies.Distributed.{distributed}
use Rattle.fc_spec.specs.replies.Json.{facets_text}
use Rattle.fc_rows.proofs.Words.{written, BothSay, labelled, limited_on, named, asking}

-- fields: id, cat; over both shards a has five and c has four
abbrev pub documents : World
documents =
    (labelled "1" "a" ∷ labelled "2" "a" ∷ labelled "3" "a" ∷ labelled "4" "b" ∷ labelled "5" "b" ∷ [])
    ∷ (labelled "6" "c" ∷ labelled "7" "c" ∷ labelled "8" "c" ∷ labelled "9" "c" ∷ labelled "10" "a" ∷ labelled "11" "a" ∷ [])
    ∷ []

abbrev pub asking_for : (overrefine : ℕ) → Request
asking_for overrefine = asking (facet (named "c" (terms (record (limited_on 1 1) { refine = true; overrequest = 0; overrefine = overrefine }))) no_nodes no_nodes)

-- of the shards that offer them c has four and a has three, so c alone is chosen
pub first_chosen : facets_text (distributed (asking_for 0) documents) ≡ codes "{\"c\":{\"buckets\":[{\"count\":4,\"val\":\"c\"}]},\"count\":11}"
unfolding written
first_chosen = refl

-- both are chosen, and a is ahead once it is refined
pub both_chosen : BothSay (asking_for 1) documents (codes "{\"c\":{\"buckets\":[{\"count\":5,\"val\":\"a\"}]},\"count\":11}")
unfolding written
both_chosen = (refl, refl)
