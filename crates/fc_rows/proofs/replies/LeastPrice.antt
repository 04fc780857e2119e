-- Sorting by a statistic that one bucket lacks.
use Rattle.std.specs.Prelude.{pos, [], ◌∷◌, Bool, true, false, refl, codes}
use Rattle.fc_spec.specs.documents.World.{World}
use Rattle.fc_spec.specs.requests.Request.{min, terms, no_nodes, statistic, facet, Request}
use Rattle.fc_rows.proofs.Words.{written, BothSay, said, numbered, alone, by_first, terms_on, stat, named, asking}

-- fields: id, cat, price; b has no price
abbrev pub documents : World
documents =
    (alone (said "1" ∷ said "a" ∷ numbered (pos 5) ∷ []) ∷ alone (said "2" ∷ said "b" ∷ [] ∷ []) ∷ alone (said "3" ∷ said "c" ∷ numbered (pos 2) ∷ []) ∷ [])
    ∷ []

abbrev pub by_low : (descending : Bool) → Request
by_low descending = asking (facet (named "c" (terms (record (terms_on 1) { sort = by_first descending }))) (statistic (codes "low") (stat min 2) no_nodes) no_nodes)

pub ascending : BothSay (by_low false) documents
    (codes "{\"c\":{\"buckets\":[{\"count\":1,\"low\":2,\"val\":\"c\"},{\"count\":1,\"low\":5,\"val\":\"a\"},{\"count\":1,\"val\":\"b\"}]},\"count\":3}")
unfolding written
ascending = (refl, refl)

-- the bucket without it stands last in both directions
pub descending : BothSay (by_low true) documents
    (codes "{\"c\":{\"buckets\":[{\"count\":1,\"low\":5,\"val\":\"a\"},{\"count\":1,\"low\":2,\"val\":\"c\"},{\"count\":1,\"val\":\"b\"}]},\"count\":3}")
unfolding written
descending = (refl, refl)
