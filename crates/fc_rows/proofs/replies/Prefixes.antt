-- Values that begin with a text, and the documents that have no value at all.
use Rattle.std.specs.Prelude.{[], ◌∷◌, true, Some, refl, codes}
use Rattle.fc_spec.specs.documents.Val.{text}
use Rattle.fc_spec.specs.documents.World.{World}
use Rattle.fc_spec.specs.requests.Request.{terms, no_nodes, facet, Request}
use Rattle.fc_rows.proofs.Words.{written, BothSay, said, alone, labelled, terms_on, named, asking}

-- fields: id, t; banana has a value, though none that begins so
abbrev pub documents : World
documents =
    (alone (said "1" ∷ (text (codes "apple") ∷ text (codes "apricot") ∷ []) ∷ []) ∷ labelled "2" "banana" ∷ [])
    ∷ (labelled "3" "apple" ∷ labelled "4" "ap" ∷ labelled "5" "a" ∷ alone (said "6" ∷ [] ∷ []) ∷ [])
    ∷ []

abbrev pub request : Request
request = asking (facet (named "t" (terms (record (terms_on 1) { prefix = Some (codes "ap"); missing = true }))) no_nodes no_nodes)

pub begins_so : BothSay request documents
    (codes "{\"count\":6,\"t\":{\"buckets\":[{\"count\":2,\"val\":\"apple\"},{\"count\":1,\"val\":\"ap\"},{\"count\":1,\"val\":\"apricot\"}],\"missing\":{\"count\":1}}}")
unfolding written
begins_so = (refl, refl)
