-- The bucket of the documents that have no value.
use Rattle.std.specs.Prelude.{[], ◌∷◌, true, refl, codes}
use Rattle.fc_spec.specs.documents.World.{World}
use Rattle.fc_spec.specs.requests.Request.{countvals, terms, no_nodes, statistic, facet, Request}
use Rattle.fc_rows.proofs.Words.{written, BothSay, said, alone, labelled, terms_on, stat, named, asking}

-- fields: id, cat
abbrev pub documents : World
documents = (labelled "1" "a" ∷ alone (said "2" ∷ [] ∷ []) ∷ []) ∷ (labelled "3" "a" ∷ []) ∷ []

abbrev pub request : Request
request = asking (facet (named "c" (terms (record (terms_on 1) { missing = true }))) (statistic (codes "n") (stat countvals 0) no_nodes) no_nodes)

pub missing_bucket : BothSay request documents
    (codes "{\"c\":{\"buckets\":[{\"count\":2,\"n\":2,\"val\":\"a\"}],\"missing\":{\"count\":1,\"n\":1}},\"count\":3}")
unfolding written
missing_bucket = (refl, refl)
