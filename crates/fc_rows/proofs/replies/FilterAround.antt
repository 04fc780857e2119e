-- The domain filter of a terms facet holds inside its buckets too, where a nested facet excludes a tag.
use Rattle.std.specs.Prelude.{[], ◌∷◌, refl, codes}
use Rattle.fc_spec.specs.documents.World.{World}
use Rattle.fc_spec.specs.queries.Query.{must_not, group, no_clauses, clause}
use Rattle.fc_spec.specs.requests.Request.{terms, no_nodes, facet, Request}
use Rattle.fc_rows.proofs.Words.{written, BothSay, says, unlimited_on, no_change, changed}
use Rattle.fc_rows.proofs.replies.NestedExclusion.{product, asking_for_red, colors}

abbrev pub products : World
products = (product "1" "acme" "red" ∷ []) ∷ (product "2" "acme" "blue" ∷ product "3" "acme" "green" ∷ []) ∷ []

-- the brands of what is not green
abbrev pub request : Request
request = asking_for_red (facet (changed "brands" (record no_change { filters = group (clause must_not (says 2 "green") no_clauses) ∷ [] }) (terms (unlimited_on 1))) colors no_nodes)

-- blue comes back, and green does not
pub filter_kept : BothSay request products
    (codes "{\"brands\":{\"buckets\":[{\"colors\":{\"buckets\":[{\"count\":1,\"val\":\"blue\"},{\"count\":1,\"val\":\"red\"}]},\"count\":1,\"val\":\"acme\"}]},\"count\":1}")
unfolding written
filter_kept = (refl, refl)
