-- A nested facet that excludes a tag: it counts in each bucket of the facet around it, over all shards.
use Rattle.std.specs.Prelude.{[], ◌∷◌, refl, codes}
use Prim.Native.String.{String}
use Rattle.fc_spec.specs.documents.Document.{Block}
use Rattle.fc_spec.specs.queries.Query.{all}
use Rattle.fc_spec.specs.documents.World.{World}
use Rattle.fc_spec.specs.requests.Request.{Terms, terms, query, Nodes, no_nodes, facet, Request}
use Rattle.fc_rows.proofs.Words.{written, BothSay, said, alone, says, terms_on, unlimited_on, no_change, named, changed, tagged}

-- fields: id, brand, color
abbrev pub product : String → String → String → Block
product id brand color = alone (said id ∷ said brand ∷ said color ∷ [])

abbrev pub products : World
products = (product "1" "acme" "red" ∷ []) ∷ (product "2" "acme" "blue" ∷ []) ∷ []

-- red is asked for, and the colors leave that filter out
abbrev pub asking_for_red : Nodes → Request
asking_for_red nodes = record { query = all; filters = tagged "C" (says 2 "red") ∷ []; nodes = nodes }

abbrev pub colors_by : Terms → Nodes
colors_by t = facet (changed "colors" (record no_change { exclude = codes "C" ∷ [] }) (terms t)) no_nodes no_nodes

abbrev pub colors : Nodes
colors = colors_by (terms_on 2)

-- the colors of each brand
abbrev pub request : Request
request = asking_for_red (facet (named "brands" (terms (unlimited_on 1))) colors no_nodes)

-- shard 1 has no red product, and its blue one is counted in the brand
pub all_shards : BothSay request products (codes "{\"brands\":{\"buckets\":[{\"colors\":{\"buckets\":[{\"count\":1,\"val\":\"blue\"},{\"count\":1,\"val\":\"red\"}]},\"count\":1,\"val\":\"acme\"}]},\"count\":1}")
unfolding written
all_shards = (refl, refl)

-- ---- what enclosing facets ask of a document

-- under two facets, of which the outer one leaves out a tag of its own and asks for brand:acme: its tag stays excluded inside, and so do its bucket's test and its filter hold
abbrev pub around_colors : Request
around_colors = record {
  query = all;
  filters = tagged "C" (says 2 "red") ∷ tagged "B" (says 1 "zen") ∷ [];
  nodes =
      facet (changed "brands" (record no_change { exclude = codes "B" ∷ []; filters = says 1 "acme" ∷ [] }) (query (says 2 "red"))) colors
      (facet (changed "none" (record no_change { exclude = codes "B" ∷ [] }) (query (says 1 "zen"))) colors no_nodes);
}

-- the colors are those of documents that are red, whatever the tag; no document is of the brand zen
pub tests_stay : BothSay around_colors products
    (codes "{\"brands\":{\"colors\":{\"buckets\":[{\"count\":1,\"val\":\"red\"}]},\"count\":1},\"count\":0,\"none\":{\"colors\":{\"buckets\":[]},\"count\":0}}")
unfolding written
tests_stay = (refl, refl)
