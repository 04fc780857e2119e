-- Query facets, and the statistics of an empty bucket.
use Rattle.std.specs.Prelude.{pos, [], ◌∷◌, refl, codes}
use Rattle.fc_spec.specs.documents.Val.{long}
use Rattle.fc_spec.specs.queries.Query.{unbounded, including, between}
use Rattle.fc_spec.specs.documents.World.{World}
use Rattle.fc_spec.specs.requests.Request.{sum, min, missing, query, no_nodes, statistic, facet, Request}
use Rattle.fc_rows.proofs.Words.{written, BothSay, said, numbered, alone, says, stat, named, asking}

-- fields: id, color, size; c has no size
abbrev pub documents : World
documents =
    (alone (said "1" ∷ said "a" ∷ numbered (pos 1) ∷ []) ∷ alone (said "2" ∷ said "b" ∷ numbered (pos 2) ∷ []) ∷ alone (said "3" ∷ said "c" ∷ [] ∷ []) ∷ [])
    ∷ []

-- a bucket of size:[2 TO *], the least size, and a bucket of color:z, which is empty
abbrev pub request : Request
request = asking
    (facet (named "big" (query (between 2 (including (long (pos 2))) unbounded))) (statistic (codes "m") (stat missing 1) (statistic (codes "s") (stat sum 2) no_nodes))
    (statistic (codes "lo") (stat min 2)
    (facet (named "none" (query (says 1 "z"))) (statistic (codes "s") (stat sum 2) no_nodes) no_nodes)))

pub query_buckets : BothSay request documents (codes "{\"big\":{\"count\":1,\"m\":0,\"s\":2},\"count\":3,\"lo\":1,\"none\":{\"count\":0}}")
unfolding written
query_buckets = (refl, refl)
