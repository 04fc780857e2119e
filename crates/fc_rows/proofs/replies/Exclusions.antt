-- A facet that excludes a tagged filter, where the root is empty.
use Rattle.std.specs.Prelude.{[], ◌∷◌, refl, codes}
use Rattle.fc_spec.specs.queries.Query.{must_not, Query, all, group, no_clauses, clause}
use Rattle.fc_spec.specs.requests.Request.{countvals, terms, no_nodes, statistic, facet, Request}
use Prim.Native.String.{String}
use Rattle.fc_rows.proofs.Words.{written, BothSay, says, terms_on, stat, no_change, changed, untagged, tagged}
use Rattle.fc_rows.proofs.replies.RootCounts.{documents}

-- no document has color z; the facet leaves that filter out
abbrev pub counting : Request
counting = record {
  query = all;
  filters = tagged "C" (says 1 "z") ∷ [];
  nodes = facet (changed "all" (record no_change { exclude = codes "C" ∷ [] }) (terms (terms_on 1))) no_nodes (statistic (codes "n") (stat countvals 1) no_nodes);
}

pub excluded : BothSay counting documents
    (codes "{\"all\":{\"buckets\":[{\"count\":1,\"val\":\"a\"},{\"count\":1,\"val\":\"b\"},{\"count\":1,\"val\":\"c\"}]},\"count\":0}")
unfolding written
excluded = (refl, refl)

abbrev pub without : String → Query
without color = group (clause must_not (says 1 color) no_clauses)

-- exclusion comes first, and the domain's own filter after it; the filter without the tag stays
abbrev pub narrowed : Request
narrowed = record {
  query = all;
  filters = tagged "C" (says 1 "z") ∷ untagged (without "c") ∷ [];
  nodes =
      facet (changed "all" (record no_change { exclude = codes "C" ∷ []; filters = without "b" ∷ [] }) (terms (terms_on 1))) no_nodes
      (statistic (codes "n") (stat countvals 1) no_nodes);
}

pub excluded_then_filtered : BothSay narrowed documents (codes "{\"all\":{\"buckets\":[{\"count\":1,\"val\":\"a\"}]},\"count\":0}")
unfolding written
excluded_then_filtered = (refl, refl)
