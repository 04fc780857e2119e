-- A missing bucket that is empty on one shard and holds an exclusion: the shard lists it, and what is nested in it brings the shard's documents back.
use Rattle.std.specs.Prelude.{◌≡◌, [], ◌∷◌, true, refl, codes}
use Prim.Native.String.{String}
use Rattle.fc_spec.specs.documents.Document.{Block}
use Rattle.fc_spec.specs.documents.World.{World}
use Rattle.fc_spec.specs.requests.Request.{terms, no_nodes, facet, Request}
use Rattle.fc_spec.specs.requests.Buckets.{missing, whole}
use Rattle.fc_spec.specs.messages.Message.{no_partials, first}
use Rattle.fc_spec.specs.messages.Rounds.{search_rounds}
use Rattle.fc_rows.proofs.Words.{written, said, alone, terms_on, named}
use Rattle.fc_rows.proofs.messages.MessageWords.{AllSay, answer_of, key_of, leaf, branch, around, heard, heard_in, all_shaped}
use Rattle.fc_rows.proofs.replies.NestedExclusion.{product, asking_for_red, colors}

abbrev pub without_brand : String → String → Block
without_brand id color = alone (said id ∷ [] ∷ said color ∷ [])

abbrev pub products : World
products = (without_brand "1" "red" ∷ []) ∷ (without_brand "2" "blue" ∷ product "3" "acme" "blue" ∷ []) ∷ []

-- the colors of what has no brand
abbrev pub request : Request
request = asking_for_red (facet (named "brands" (terms (record (terms_on 1) { missing = true }))) colors no_nodes)

-- shard 1 has no red product, and a blue one without a brand
pub answers :
    (answer_of 0 request products first ≡ around whole 1 (branch missing 1 (leaf (key_of "red") 1 no_partials) no_partials))
    × (answer_of 1 request products first ≡ around whole 0 (branch missing 0 (leaf (key_of "blue") 1 no_partials) no_partials))
answers = (refl, refl)

pub one_round : heard_in (search_rounds request products) ≡ heard 1 0 ∷ heard 1 1 ∷ []
one_round = refl

pub shaped : all_shaped request (search_rounds request products) ≡ true
shaped = refl

pub both_shards : AllSay request products
    (codes "{\"brands\":{\"buckets\":[],\"missing\":{\"colors\":{\"buckets\":[{\"count\":1,\"val\":\"blue\"},{\"count\":1,\"val\":\"red\"}]},\"count\":1}},\"count\":1}")
unfolding written
both_shards = ((refl, refl), refl)
