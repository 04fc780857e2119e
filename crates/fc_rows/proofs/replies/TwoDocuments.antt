-- Two documents on one shard: their values in index order.
use Rattle.std.specs.Prelude.{◌≡◌, [], ◌∷◌, refl, codes}
use Rattle.fc_spec.specs.documents.World.{World}
use Rattle.fc_spec.specs.requests.Request.{terms, no_nodes, facet, Request}
use Rattle.fc_spec.specs.replies.Distributed.{distributed}
use Rattle.fc_spec.specs.scripts.Lines.{reply_line}
use Rattle.fc_rows.proofs.Words.{written, BothSay, labelled, index_asc, unlimited_on, named, asking}

-- fields: id, cat
abbrev pub documents : World
documents = (labelled "1" "b" ∷ labelled "2" "a" ∷ []) ∷ []

abbrev pub request : Request
request = asking (facet (named "cats" (terms (record (unlimited_on 1) { sort = index_asc }))) no_nodes no_nodes)

pub by_index : BothSay request documents (codes "{\"cats\":{\"buckets\":[{\"count\":1,\"val\":\"a\"},{\"count\":1,\"val\":\"b\"}]},\"count\":2}")
unfolding written
by_index = (refl, refl)

-- the whole line
pub line : reply_line (distributed request documents) (1 ∷ []) (codes "a")
    ≡ codes "{\"facets\":{\"cats\":{\"buckets\":[{\"count\":1,\"val\":\"a\"},{\"count\":1,\"val\":\"b\"}]},\"count\":2},\"generations\":[1],\"session\":\"a\"}\n"
unfolding written
line = refl
