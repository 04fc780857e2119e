-- A facet that excludes a tag inside one that excludes another: inside, both filters are left out.
use Rattle.std.specs.Prelude.{[], ◌∷◌, refl, codes}
use Rattle.fc_spec.specs.documents.World.{World}
use Rattle.fc_spec.specs.queries.Query.{all}
use Rattle.fc_spec.specs.requests.Request.{terms, no_nodes, facet, Request}
use Rattle.fc_rows.proofs.Words.{written, BothSay, says, unlimited_on, no_change, changed, tagged}
use Rattle.fc_rows.proofs.replies.NestedExclusion.{product, colors}

abbrev pub products : World
products = (product "1" "acme" "red" ∷ product "2" "zen" "red" ∷ []) ∷ (product "3" "acme" "blue" ∷ []) ∷ []

-- red products of the brand zen; the brands leave the one filter out, their colors the other one too
abbrev pub request : Request
request = record {
  query = all;
  filters = tagged "C" (says 2 "red") ∷ tagged "B" (says 1 "zen") ∷ [];
  nodes = facet (changed "brands" (record no_change { exclude = codes "B" ∷ [] }) (terms (unlimited_on 1))) colors no_nodes;
}

-- a brand that is not asked for has its color that is not asked for
pub both_out : BothSay request products
    (codes "{\"brands\":{\"buckets\":[{\"colors\":{\"buckets\":[{\"count\":1,\"val\":\"blue\"},{\"count\":1,\"val\":\"red\"}]},\"count\":1,\"val\":\"acme\"},{\"colors\":{\"buckets\":[{\"count\":1,\"val\":\"red\"}]},\"count\":1,\"val\":\"zen\"}]},\"count\":1}")
unfolding written
both_out = (refl, refl)
