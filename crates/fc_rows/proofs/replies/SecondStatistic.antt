-- Sorting by the second of two nested statistics.
use Rattle.std.specs.Prelude.{pos, [], ◌∷◌, true, refl, codes}
use Rattle.fc_spec.specs.documents.World.{World}
use Rattle.fc_spec.specs.requests.Request.{by_statistic, min, max, terms, no_nodes, statistic, facet, Request}
use Rattle.fc_rows.proofs.Words.{written, BothSay, said, numbered, alone, terms_on, stat, named, asking}

-- fields: id, cat, n
abbrev pub documents : World
documents =
    (alone (said "1" ∷ said "a" ∷ numbered (pos 1) ∷ []) ∷ alone (said "2" ∷ said "a" ∷ numbered (pos 9) ∷ []) ∷ [])
    ∷ (alone (said "3" ∷ said "b" ∷ numbered (pos 5) ∷ []) ∷ alone (said "4" ∷ said "c" ∷ numbered (pos 3) ∷ []) ∷ [])
    ∷ []

-- by the least number, and not by the greatest
abbrev pub request : Request
request = asking
    (facet (named "c" (terms (record (terms_on 1) { sort = record { by = by_statistic 1; descending = true } })))
    (statistic (codes "hi") (stat max 2) (statistic (codes "lo") (stat min 2) no_nodes))
    no_nodes)

pub by_least : BothSay request documents
    (codes "{\"c\":{\"buckets\":[{\"count\":1,\"hi\":5,\"lo\":5,\"val\":\"b\"},{\"count\":1,\"hi\":3,\"lo\":3,\"val\":\"c\"},{\"count\":2,\"hi\":9,\"lo\":1,\"val\":\"a\"}]},\"count\":4}")
unfolding written
by_least = (refl, refl)
