-- A shard without a document: the count, and nothing of its facets.
use Rattle.std.specs.Prelude.{◌≡◌, [], ◌∷◌, refl, codes}
use Rattle.fc_spec.specs.requests.Request.{terms, no_nodes, facet, Request}
use Rattle.fc_spec.specs.replies.Distributed.{distributed}
use Rattle.fc_spec.specs.scripts.Lines.{reply_line}
use Rattle.fc_rows.proofs.Words.{written, BothSay, terms_on, named, asking}

abbrev pub request : Request
request = asking (facet (named "c" (terms (terms_on 1))) no_nodes no_nodes)

pub no_document : BothSay request ([] ∷ []) (codes "{\"count\":0}")
unfolding written
no_document = (refl, refl)

pub line : reply_line (distributed request ([] ∷ [])) (0 ∷ []) (codes "a") ≡ codes "{\"facets\":{\"count\":0},\"generations\":[0],\"session\":\"a\"}\n"
unfolding written
line = refl
