-- What a step between parents and children keeps and drops.
use Rattle.std.specs.Prelude.{[], ◌∷◌, refl, codes}
use Rattle.fc_spec.specs.queries.Query.{Query, all}
use Rattle.fc_spec.specs.requests.Request.{BlockStep, parents, children, terms, no_nodes, facet, Request}
use Rattle.fc_rows.proofs.Words.{written, BothSay, says, terms_on, no_change, changed}
use Rattle.fc_spec.specs.documents.World.{World}
use Rattle.fc_rows.proofs.replies.Families.{child, parent_of_brand, family, families, is_parent}

-- of the places of a query, moved by a step, the brands and the colors
abbrev pub after_step : Query → BlockStep → Request
after_step q step = record {
  query = q;
  filters = [];
  nodes =
      facet (changed "brands" (record no_change { block = step }) (terms (terms_on 1))) no_nodes
      (facet (changed "colors" (record no_change { block = step }) (terms (terms_on 2))) no_nodes no_nodes);
}

-- a parent in the domain that matches keeps itself, with a child or without
pub parent_kept : BothSay (after_step is_parent (parents is_parent)) families
    (codes "{\"brands\":{\"buckets\":[{\"count\":2,\"val\":\"zen\"},{\"count\":1,\"val\":\"acme\"}]},\"colors\":{\"buckets\":[]},\"count\":3}")
unfolding written
parent_kept = (refl, refl)

-- a parent that its child and itself bring counts once
pub parent_once : BothSay (after_step all (parents is_parent)) families
    (codes "{\"brands\":{\"buckets\":[{\"count\":2,\"val\":\"zen\"},{\"count\":1,\"val\":\"acme\"}]},\"colors\":{\"buckets\":[]},\"count\":6}")
unfolding written
parent_once = (refl, refl)

-- only parents that match
pub parent_matches : BothSay (after_step all (parents (says 1 "acme"))) families
    (codes "{\"brands\":{\"buckets\":[{\"count\":1,\"val\":\"acme\"}]},\"colors\":{\"buckets\":[]},\"count\":6}")
unfolding written
parent_matches = (refl, refl)

-- children in the domain give nothing
pub no_grandchildren : BothSay (after_step (says 2 "red") (children all)) families
    (codes "{\"brands\":{\"buckets\":[]},\"colors\":{\"buckets\":[]},\"count\":2}")
unfolding written
no_grandchildren = (refl, refl)

-- the children of the parents that match, and not the parents
pub children_of_some : BothSay (after_step all (children (says 1 "zen"))) families
    (codes "{\"brands\":{\"buckets\":[]},\"colors\":{\"buckets\":[{\"count\":1,\"val\":\"red\"}]},\"count\":6}")
unfolding written
children_of_some = (refl, refl)

-- the first blocks of two shards are different blocks
abbrev pub two_shards : World
two_shards = (family (child "1" "red" ∷ []) (parent_of_brand "2" "acme") ∷ []) ∷ (family (child "3" "blue" ∷ []) (parent_of_brand "4" "zen") ∷ []) ∷ []

pub own_children : BothSay (after_step (says 1 "acme") (children is_parent)) two_shards
    (codes "{\"brands\":{\"buckets\":[]},\"colors\":{\"buckets\":[{\"count\":1,\"val\":\"red\"}]},\"count\":1}")
unfolding written
own_children = (refl, refl)

pub own_parent : BothSay (after_step (says 2 "blue") (parents is_parent)) two_shards
    (codes "{\"brands\":{\"buckets\":[{\"count\":1,\"val\":\"zen\"}]},\"colors\":{\"buckets\":[]},\"count\":1}")
unfolding written
own_parent = (refl, refl)
