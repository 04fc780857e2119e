-- A domain changes by exclusion first, then by the step between parents and children, then by its own filters.
use Rattle.std.specs.Prelude.{[], ◌∷◌, refl, codes}
use Rattle.fc_spec.specs.requests.Request.{DomainChange, children, terms, no_nodes, facet, Request}
use Rattle.fc_rows.proofs.Words.{written, BothSay, says, terms_on, no_change, changed, tagged}
use Rattle.fc_rows.proofs.replies.Families.{families, is_parent}

-- the parents, of which a filter takes those of brand acme; a facet on brands and one on colors
abbrev pub after_change : DomainChange → Request
after_change change = record {
  query = is_parent;
  filters = tagged "T" (says 1 "acme") ∷ [];
  nodes = facet (changed "brands" change (terms (terms_on 1))) no_nodes (facet (changed "colors" change (terms (terms_on 2))) no_nodes no_nodes);
}

-- the children of every parent
pub excluded_then_moved : BothSay (after_change (record no_change { exclude = codes "T" ∷ []; block = children is_parent })) families
    (codes "{\"brands\":{\"buckets\":[]},\"colors\":{\"buckets\":[{\"count\":2,\"val\":\"red\"},{\"count\":1,\"val\":\"blue\"}]},\"count\":1}")
unfolding written
excluded_then_moved = (refl, refl)

-- of the one parent's children the red one
pub moved_then_filtered : BothSay (after_change (record no_change { block = children is_parent; filters = says 2 "red" ∷ [] })) families
    (codes "{\"brands\":{\"buckets\":[]},\"colors\":{\"buckets\":[{\"count\":1,\"val\":\"red\"}]},\"count\":1}")
unfolding written
moved_then_filtered = (refl, refl)

-- of all children the red ones
pub all_three : BothSay (after_change (record no_change { exclude = codes "T" ∷ []; block = children is_parent; filters = says 2 "red" ∷ [] })) families
    (codes "{\"brands\":{\"buckets\":[]},\"colors\":{\"buckets\":[{\"count\":2,\"val\":\"red\"}]},\"count\":1}")
unfolding written
all_three = (refl, refl)
