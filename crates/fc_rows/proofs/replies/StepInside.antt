-- A nested facet that excludes a tag and has a step to the children: the exclusion and what is asked around it come first, of the parents, and then the step.
use Rattle.std.specs.Prelude.{[], ◌∷◌, refl, codes}
use Rattle.fc_spec.specs.requests.Request.{children, terms, no_nodes, facet, Request}
use Rattle.fc_rows.proofs.Words.{written, BothSay, says, terms_on, unlimited_on, no_change, named, changed, tagged}
use Rattle.fc_rows.proofs.replies.Families.{is_parent}
use Rattle.fc_rows.proofs.replies.FamilySteps.{two_shards}

-- the parents, of which a filter takes those of brand acme, by their kind, and there the colors of every parent's children
abbrev pub request : Request
request = record {
  query = is_parent;
  filters = tagged "T" (says 1 "acme") ∷ [];
  nodes =
      facet (named "kinds" (terms (unlimited_on 3))) (facet (changed "colors" (record no_change { exclude = codes "T" ∷ []; block = children is_parent }) (terms (terms_on 2))) no_nodes no_nodes)
      no_nodes;
}

-- the children have no kind; the blue one is of a parent on shard 1, which is of another brand
pub excluded_then_moved : BothSay request two_shards
    (codes "{\"count\":1,\"kinds\":{\"buckets\":[{\"colors\":{\"buckets\":[{\"count\":1,\"val\":\"blue\"},{\"count\":1,\"val\":\"red\"}]},\"count\":1,\"val\":\"p\"}]}}")
unfolding written
excluded_then_moved = (refl, refl)
