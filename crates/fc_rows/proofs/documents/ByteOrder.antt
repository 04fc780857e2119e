-- Index order is that of bytes; a text is written with its escapes.
use Rattle.std.specs.Prelude.{[], ◌∷◌, ◌++◌, refl, codes}
use Rattle.fc_spec.specs.documents.Val.{text}
use Rattle.fc_spec.specs.documents.World.{World}
use Rattle.fc_spec.specs.requests.Request.{countvals, terms, no_nodes, statistic, facet, Request}
use Rattle.fc_rows.proofs.Words.{written, BothSay, said, alone, labelled, index_asc, terms_on, stat, named, asking}

-- fields: id, t; the second value is an e with an acute accent, the third a quotation mark
abbrev pub documents : World
documents =
    (labelled "1" "z" ∷ alone (said "2" ∷ (text (195 ∷ 169 ∷ []) ∷ []) ∷ []) ∷ labelled "3" "\"" ∷ [])
    ∷ []

abbrev pub request : Request
request = asking (facet (named "t" (terms (record (terms_on 1) { sort = index_asc }))) no_nodes (statistic (codes "v") (stat countvals 1) no_nodes))

pub byte_order : BothSay request documents
    (codes "{\"count\":3,\"t\":{\"buckets\":[{\"count\":1,\"val\":\"\\\"\"},{\"count\":1,\"val\":\"z\"},{\"count\":1,\"val\":\"" ++ 195 ∷ 169 ∷ codes "\"}]},\"v\":3}")
unfolding written
byte_order = (refl, refl)
