-- Facets inside an empty bucket: those that exclude tags themselves are printed and refined; one that only holds an exclusion is not, and nothing is asked for inside it.
use Rattle.std.specs.Prelude.{◌≡◌, [], ◌∷◌, true, refl, codes}
use Rattle.fc_spec.specs.documents.World.{World}
use Rattle.fc_spec.specs.queries.Query.{all}
use Rattle.fc_spec.specs.requests.Request.{query, Nodes, no_nodes, facet, Request}
use Rattle.fc_spec.specs.requests.Buckets.{whole}
use Rattle.fc_spec.specs.messages.Message.{no_partials, partial, no_rows, row, first}
use Rattle.fc_spec.specs.messages.Rounds.{told_in, search_rounds}
use Rattle.fc_rows.proofs.Words.{written, says, named}
use Rattle.fc_rows.proofs.messages.MessageWords.{AllSay, answer_of, next_lacks_of, key_of, counted, leaf, branch, around, want, heard, heard_in, up_to_round, all_shaped}
use Rattle.fc_rows.proofs.replies.NestedExclusion.{product, asking_for_red, colors_by}
use Rattle.fc_rows.proofs.replies.ShortCount.{refined}

-- no product of the brand zen is red
abbrev pub products : World
products =
    (product "1" "acme" "red" ∷ product "2" "zen" "blue" ∷ product "3" "zen" "blue" ∷ [])
    ∷ (product "4" "zen" "green" ∷ product "5" "zen" "green" ∷ product "6" "zen" "blue" ∷ [])
    ∷ []

-- one color
abbrev pub one_color : Nodes
one_color = colors_by (record refined { field = 2 })

-- the color of brand:zen, and once more inside a facet that excludes nothing itself
abbrev pub request : Request
request = asking_for_red (facet (named "zen" (query (says 1 "zen"))) (facet (named "all" (query all)) one_color one_color) no_nodes)

-- a shard lists both
pub first_answer : answer_of 0 request products first
    ≡ around whole 1 (partial whole (counted 0) (row (branch whole 0 (leaf (key_of "blue") 2 no_partials) no_partials) (row (leaf (key_of "blue") 2 no_partials) no_rows)) no_partials)
first_answer = refl

-- the chosen color is asked for in one of them
pub one_lack : next_lacks_of 2 request (told_in request.nodes (up_to_round 1 request products)) 1 0
    ≡ record { shard = 1; want = want (record { node = 0; key = whole } ∷ []) 1 (key_of "blue") } ∷ []
one_lack = refl

pub two_rounds : heard_in (search_rounds request products) ≡ heard 1 0 ∷ heard 1 1 ∷ heard 2 1 ∷ []
two_rounds = refl

pub shaped : all_shaped request (search_rounds request products) ≡ true
shaped = refl

pub one_printed : AllSay request products (codes "{\"count\":1,\"zen\":{\"colors\":{\"buckets\":[{\"count\":3,\"val\":\"blue\"}]},\"count\":0}}")
unfolding written
one_printed = ((refl, refl), refl)
