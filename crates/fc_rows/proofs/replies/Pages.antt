-- Limits and offsets over values of the same count.
use Rattle.std.specs.Prelude.{true, [], ◌∷◌, refl, codes}
use Rattle.fc_spec.specs.documents.World.{World}
use Rattle.fc_spec.specs.requests.Request.{Terms, terms, no_nodes, facet, Request}
use Rattle.fc_rows.proofs.Words.{written, BothSay, labelled, terms_on, limited_on, unlimited_on, named, asking}

-- fields: id, cat
abbrev pub documents : World
documents = (labelled "1" "b" ∷ labelled "2" "a" ∷ labelled "3" "c" ∷ []) ∷ []

abbrev pub asking_one : Terms → Request
asking_one t = asking (facet (named "c" (terms t)) no_nodes no_nodes)

-- ties stand in index order
pub first_two : BothSay (asking_one (limited_on 1 2)) documents
    (codes "{\"c\":{\"buckets\":[{\"count\":1,\"val\":\"a\"},{\"count\":1,\"val\":\"b\"}]},\"count\":3}")
unfolding written
first_two = (refl, refl)

pub past_the_end : BothSay (asking_one (record (terms_on 1) { offset = 5 })) documents (codes "{\"c\":{\"buckets\":[]},\"count\":3}")
unfolding written
past_the_end = (refl, refl)

pub no_bucket : BothSay (asking_one (limited_on 1 0)) documents (codes "{\"c\":{\"buckets\":[]},\"count\":3}")
unfolding written
no_bucket = (refl, refl)

-- the second alone: offered and chosen are as many as the offset and the limit say together
abbrev pub second : Terms
second = record (limited_on 1 1) { offset = 1; overrequest = 0; overrefine = 0 }

pub second_alone : BothSay (asking_one second) documents (codes "{\"c\":{\"buckets\":[{\"count\":1,\"val\":\"b\"}]},\"count\":3}")
unfolding written
second_alone = (refl, refl)

pub second_refined : BothSay (asking_one (record second { refine = true })) documents (codes "{\"c\":{\"buckets\":[{\"count\":1,\"val\":\"b\"}]},\"count\":3}")
unfolding written
second_refined = (refl, refl)

-- from the second on, without a limit
pub second_on : BothSay (asking_one (record (unlimited_on 1) { offset = 1 })) documents (codes "{\"c\":{\"buckets\":[{\"count\":1,\"val\":\"b\"},{\"count\":1,\"val\":\"c\"}]},\"count\":3}")
unfolding written
second_on = (refl, refl)
