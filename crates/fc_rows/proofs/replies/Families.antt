-- Parents and their children: from one to the other and back.
use Rattle.std.specs.Prelude.{List, [], ◌∷◌, refl, codes}
use Rattle.fc_spec.specs.documents.Document.{Document, Block}
use Rattle.fc_spec.specs.queries.Query.{Query}
use Rattle.fc_spec.specs.documents.World.{World}
use Rattle.fc_spec.specs.requests.Request.{parents, children, terms, Nodes, no_nodes, facet, Request}
use Prim.Native.String.{String}
use Rattle.fc_rows.proofs.Words.{written, BothSay, said, says, terms_on, no_change, changed}

-- fields: id, brand, color, kind
abbrev pub child : String → String → Document
child id color = said id ∷ [] ∷ said color ∷ [] ∷ []

abbrev pub parent_of_brand : String → String → Document
parent_of_brand id brand = said id ∷ said brand ∷ [] ∷ said "p" ∷ []

abbrev pub family : List Document → Document → Block
family young parent = record { children = young; parent = parent }

-- three blocks; the second has no child
abbrev pub families : World
families =
    (family (child "1" "red" ∷ child "2" "blue" ∷ []) (parent_of_brand "3" "acme")
    ∷ family [] (parent_of_brand "4" "zen")
    ∷ family (child "5" "red" ∷ []) (parent_of_brand "6" "zen")
    ∷ [])
    ∷ []

abbrev pub is_parent : Query
is_parent = says 3 "p"

-- the colors of the parents' children, and the brands of the parents of each color
abbrev pub skus : Nodes
skus =
    facet (changed "skus" (record no_change { block = children is_parent }) (terms (terms_on 2)))
    (facet (changed "makers" (record no_change { block = parents is_parent }) (terms (terms_on 1))) no_nodes no_nodes)
    no_nodes

abbrev pub request : Request
request = record { query = is_parent; filters = []; nodes = skus }

pub down_and_up : BothSay request families
    (codes "{\"count\":3,\"skus\":{\"buckets\":[{\"count\":2,\"makers\":{\"buckets\":[{\"count\":1,\"val\":\"acme\"},{\"count\":1,\"val\":\"zen\"}]},\"val\":\"red\"},{\"count\":1,\"makers\":{\"buckets\":[{\"count\":1,\"val\":\"acme\"}]},\"val\":\"blue\"}]}}")
unfolding written
down_and_up = (refl, refl)
