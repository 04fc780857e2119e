-- The demonstration script without products and with four.
use Rattle.std.specs.Prelude.{◌≡◌, pos, [], ◌∷◌, true, refl, codes}
use Rattle.fc_spec.specs.documents.Val.{text}
use Rattle.fc_spec.specs.documents.World.{World}
use Rattle.fc_spec.specs.requests.Request.{sum, terms, no_nodes, statistic, facet, Request}
use Rattle.fc_spec.specs.replies.Distributed.{distributed}
use Rattle.fc_spec.specs.scripts.Lines.{reply_line}
use Rattle.fc_rows.proofs.Words.{written, said, numbered, alone, index_asc, limited_on, unlimited_on, stat, named, asking}

-- fields: id, brand, price, tags
abbrev pub request : Request
request = asking
    (facet (named "brands" (terms (record (limited_on 1 3) { refine = true }))) (statistic (codes "total") (stat sum 2) no_nodes)
    (facet (named "tags" (terms (record (unlimited_on 3) { sort = index_asc }))) no_nodes no_nodes))

pub no_product : reply_line (distributed request ([] ∷ [] ∷ [] ∷ [] ∷ [])) (1 ∷ 1 ∷ 1 ∷ 1 ∷ []) (codes "demo")
    ≡ codes "{\"facets\":{\"count\":0},\"generations\":[1,1,1,1],\"session\":\"demo\"}\n"
unfolding written
no_product = refl

-- the first three products have one tag twice, which counts once
abbrev pub four : World
four =
    (alone (said "d0" ∷ said "b0" ∷ numbered (pos 0) ∷ said "t0" ∷ []) ∷ [])
    ∷ (alone (said "d1" ∷ said "b7" ∷ numbered (pos 31) ∷ said "t1" ∷ []) ∷ [])
    ∷ (alone (said "d2" ∷ said "b1" ∷ numbered (pos 62) ∷ said "t2" ∷ []) ∷ [])
    ∷ (alone (said "d3" ∷ said "b8" ∷ numbered (pos 93) ∷ (text (codes "t0") ∷ text (codes "t3") ∷ []) ∷ []) ∷ [])
    ∷ []

pub four_products : reply_line (distributed request four) (1 ∷ 1 ∷ 1 ∷ 1 ∷ []) (codes "demo")
    ≡ codes "{\"facets\":{\"brands\":{\"buckets\":[{\"count\":1,\"total\":0,\"val\":\"b0\"},{\"count\":1,\"total\":62,\"val\":\"b1\"},{\"count\":1,\"total\":31,\"val\":\"b7\"}]},\"count\":4,\"tags\":{\"buckets\":[{\"count\":2,\"val\":\"t0\"},{\"count\":1,\"val\":\"t1\"},{\"count\":1,\"val\":\"t2\"},{\"count\":1,\"val\":\"t3\"}]}},\"generations\":[1,1,1,1],\"session\":\"demo\"}\n"
unfolding written
four_products = refl
