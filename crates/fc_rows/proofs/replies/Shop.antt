-- A shop: twelve products on two shards, two tagged filters, ranges and sums.
use Rattle.std.specs.Prelude.{pos, List, [], ◌∷◌, true, codes}
use Rattle.fc_spec.specs.documents.Val.{text}
use Rattle.fc_spec.specs.documents.Document.{Block}
use Rattle.fc_spec.specs.queries.Query.{may, Query, all, group, no_clauses, clause}
use Rattle.fc_spec.specs.documents.World.{World}
use Rattle.fc_spec.specs.requests.Request.{sum, terms, range, Nodes, no_nodes, statistic, facet, Request}
use Rattle.fc_rows.proofs.Words.{said, numbered, alone, says, terms_on, limited_on, range_on, stat, no_change, named, changed, tagged}

-- fields: id, brand, color, price
abbrev pub first_shard : List Block
first_shard =
    alone (said "p1" ∷ said "acme" ∷ said "red" ∷ numbered (pos 10) ∷ [])
    ∷ alone (said "p2" ∷ said "acme" ∷ said "blue" ∷ numbered (pos 25) ∷ [])
    ∷ alone (said "p3" ∷ said "zen" ∷ (text (codes "blue") ∷ text (codes "red") ∷ []) ∷ numbered (pos 40) ∷ [])
    ∷ alone (said "p4" ∷ said "zen" ∷ said "green" ∷ numbered (pos 55) ∷ [])
    ∷ alone (said "p5" ∷ said "orb" ∷ said "red" ∷ numbered (pos 70) ∷ [])
    ∷ alone (said "p6" ∷ said "orb" ∷ said "blue" ∷ [] ∷ [])
    ∷ []

abbrev pub second_shard : List Block
second_shard =
    alone (said "p7" ∷ said "acme" ∷ said "red" ∷ numbered (pos 15) ∷ [])
    ∷ alone (said "p8" ∷ said "acme" ∷ said "green" ∷ numbered (pos 30) ∷ [])
    ∷ alone (said "p9" ∷ said "zen" ∷ said "red" ∷ numbered (pos 45) ∷ [])
    ∷ alone (said "p10" ∷ said "zen" ∷ said "blue" ∷ numbered (pos 60) ∷ [])
    ∷ alone (said "p11" ∷ said "orb" ∷ said "red" ∷ numbered (pos 75) ∷ [])
    ∷ alone (said "p12" ∷ said "nix" ∷ said "red" ∷ numbered (pos 20) ∷ [])
    ∷ []

abbrev pub products : World
products = first_shard ∷ second_shard ∷ []

-- brand:(acme OR zen)
abbrev pub two_brands : Query
two_brands = group (clause may (says 1 "acme") (clause may (says 1 "zen") no_clauses))

abbrev pub nodes : Nodes
nodes =
    facet (changed "brands" (record no_change { exclude = codes "BRAND" ∷ [] }) (terms (record (limited_on 1 3) { refine = true }))) (statistic (codes "total") (stat sum 3) no_nodes)
    (facet (changed "colors" (record no_change { exclude = codes "COLOR" ∷ [] }) (terms (terms_on 2))) no_nodes
    (facet (named "prices" (range (range_on 3 (pos 0) (pos 80) (pos 40)))) (facet (named "makers" (terms (record (limited_on 1 2) { refine = true }))) no_nodes no_nodes)
    (statistic (codes "total") (stat sum 3) no_nodes)))

abbrev pub request : Request
request = record { query = all; filters = tagged "COLOR" (says 2 "red") ∷ tagged "BRAND" two_brands ∷ []; nodes = nodes }
