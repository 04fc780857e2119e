-- A terms facet with a limit that refines and holds an exclusion: its chosen value is asked for, and what is nested there is counted on all shards.
use Rattle.std.specs.Prelude.{◌≡◌, [], ◌∷◌, true, false, refl, codes}
use Rattle.fc_spec.specs.documents.World.{World}
use Rattle.fc_spec.specs.requests.Request.{Terms, terms, no_nodes, facet, Request}
use Rattle.fc_spec.specs.requests.Buckets.{whole}
use Rattle.fc_spec.specs.replies.Distributed.{distributed}
use Rattle.fc_spec.specs.replies.Json.{facets_text}
use Rattle.fc_spec.specs.messages.Message.{no_partials, first, more}
use Rattle.fc_spec.specs.messages.Rounds.{told_in, search_rounds}
use Rattle.fc_rows.proofs.Words.{written, named}
use Rattle.fc_rows.proofs.messages.MessageWords.{AllSay, answer_of, next_lacks_of, key_of, leaf, branch, around, want, heard, heard_in, up_to_round, all_shaped}
use Rattle.fc_rows.proofs.replies.NestedExclusion.{product, asking_for_red, colors}
use Rattle.fc_rows.proofs.replies.ShortCount.{refined}

abbrev pub products : World
products =
    (product "1" "acme" "red" ∷ product "2" "acme" "red" ∷ product "3" "acme" "blue" ∷ [])
    ∷ (product "4" "zen" "red" ∷ product "5" "acme" "blue" ∷ product "6" "acme" "green" ∷ [])
    ∷ []

-- one brand, and its colors
abbrev pub brands_by : Terms → Request
brands_by t = asking_for_red (facet (named "brands" (terms t)) colors no_nodes)

abbrev pub request : Request
request = brands_by refined

-- shard 1 offers the other brand
pub first_answers :
    (answer_of 0 request products first ≡ around whole 2 (branch (key_of "acme") 2 (leaf (key_of "blue") 1 (leaf (key_of "red") 2 no_partials)) no_partials))
    × (answer_of 1 request products first ≡ around whole 1 (branch (key_of "zen") 1 (leaf (key_of "red") 1 no_partials) no_partials))
first_answers = (refl, refl)

pub one_lack : next_lacks_of 2 request (told_in request.nodes (up_to_round 1 request products)) 2 0 ≡ record { shard = 1; want = want [] 0 (key_of "acme") } ∷ []
one_lack = refl

-- it has no red product of the chosen brand, and two of other colors
pub second_answer : answer_of 1 request products (more (want [] 0 (key_of "acme") ∷ [])) ≡ around (key_of "acme") 0 (leaf (key_of "blue") 1 (leaf (key_of "green") 1 no_partials))
second_answer = refl

pub two_rounds : heard_in (search_rounds request products) ≡ heard 1 0 ∷ heard 1 1 ∷ heard 2 1 ∷ []
two_rounds = refl

pub shaped : all_shaped request (search_rounds request products) ≡ true
shaped = refl

pub all_shards : AllSay request products
    (codes "{\"brands\":{\"buckets\":[{\"colors\":{\"buckets\":[{\"count\":2,\"val\":\"blue\"},{\"count\":2,\"val\":\"red\"},{\"count\":1,\"val\":\"green\"}]},\"count\":2,\"val\":\"acme\"}]},\"count\":3}")
unfolding written
all_shards = ((refl, refl), refl)

-- with a limit and without refining nothing is asked for again: the colors are those of shard 0, which alone offers the brand
abbrev pub not_refined : Request
not_refined = brands_by (record refined { refine = false })

pub one_round : heard_in (search_rounds not_refined products) ≡ heard 1 0 ∷ heard 1 1 ∷ []
one_round = refl

pub offering_shard : facets_text (distributed not_refined products)
    ≡ codes "{\"brands\":{\"buckets\":[{\"colors\":{\"buckets\":[{\"count\":2,\"val\":\"red\"},{\"count\":1,\"val\":\"blue\"}]},\"count\":2,\"val\":\"acme\"}]},\"count\":3}"
unfolding written
offering_shard = refl
