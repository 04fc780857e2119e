-- A facet that excludes a tag, nested in an exact one: it counts in each top bucket over all shards, and so it does with query facets in the place of the exact one.
use Rattle.std.specs.Prelude.{◌≡◌, [], ◌∷◌, true, refl, codes}
use Rattle.fc_spec.specs.queries.Query.{all}
use Rattle.fc_spec.specs.requests.Request.{Terms, terms, facet, no_nodes, Request}
use Rattle.fc_spec.specs.replies.Distributed.{distributed}
use Rattle.fc_spec.specs.replies.WithTops.{with_tops}
use Rattle.fc_spec.specs.replies.Tops.{tops_of, replaced}
use Rattle.fc_spec.specs.replies.Restored.{restored}
use Rattle.fc_spec.specs.replies.Json.{facets_text}
use Rattle.fc_rows.proofs.Words.{written, says, limited_on, named, tagged}
use Rattle.fc_rows.proofs.replies.NestedExclusion.{products, colors}

abbrev pub first_exactly : Terms
first_exactly = record (limited_on 1 1) { refine = true; exact = true }

-- red is asked for, and the colors of the top brand leave that filter out
abbrev pub request : Request
request = record { query = all; filters = tagged "C" (says 2 "red") ∷ []; nodes = facet (named "brands" (terms first_exactly)) colors no_nodes }

pub excluded_in_exact : facets_text (with_tops request products)
    ≡ codes "{\"brands\":{\"buckets\":[{\"colors\":{\"buckets\":[{\"count\":1,\"val\":\"blue\"},{\"count\":1,\"val\":\"red\"}]},\"count\":1,\"val\":\"acme\"}]},\"count\":1}"
unfolding written
excluded_in_exact = refl

pub excluded_in_replaced : facets_text (distributed (replaced request (tops_of request products)) products)
    ≡ codes "{\"brands\":{\"colors\":{\"buckets\":[{\"count\":1,\"val\":\"blue\"},{\"count\":1,\"val\":\"red\"}]},\"count\":1},\"count\":1}"
unfolding written
excluded_in_replaced = refl

pub excluded_restored : restored request (tops_of request products) (distributed (replaced request (tops_of request products)) products) ≡ with_tops request products
excluded_restored = refl
