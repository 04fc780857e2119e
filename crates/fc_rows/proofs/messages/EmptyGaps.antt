-- Buckets of a range facet and the whole of a query facet that are empty on one shard and hold an exclusion: the shard lists them, and what is nested in them brings its documents back.
use Rattle.std.specs.Prelude.{◌≡◌, ℕ, pos, [], ◌∷◌, true, refl, codes}
use Prim.Native.String.{String}
use Rattle.fc_spec.specs.documents.Document.{Block}
use Rattle.fc_spec.specs.documents.Val.{long}
use Rattle.fc_spec.specs.documents.World.{World}
use Rattle.fc_spec.specs.queries.Query.{is}
use Rattle.fc_spec.specs.requests.Request.{range, query, no_nodes, facet, Request}
use Rattle.fc_spec.specs.requests.Buckets.{gap, between, after, whole}
use Rattle.fc_spec.specs.messages.Message.{Partials, no_partials, partial, no_rows, row, first}
use Rattle.fc_spec.specs.messages.Rounds.{search_rounds}
use Rattle.fc_rows.proofs.Words.{written, said, numbered, alone, range_on, named}
use Rattle.fc_rows.proofs.messages.MessageWords.{AllSay, answer_of, key_of, counted, leaf, branch, heard, heard_in, all_shaped}
use Rattle.fc_rows.proofs.replies.NestedExclusion.{asking_for_red, colors}

-- fields: id, brand, color, price; none has a brand
abbrev pub priced : String → String → ℕ → Block
priced id color price = alone (said id ∷ [] ∷ said color ∷ numbered (pos price) ∷ [])

abbrev pub products : World
products = (priced "1" "red" 1 ∷ []) ∷ (priced "2" "blue" 1 ∷ priced "3" "blue" 9 ∷ []) ∷ []

-- the colors of price:1, of two gaps from 0 to 4, of what lies between and of what lies after; what lies before is not asked for
abbrev pub request : Request
request = asking_for_red
    (facet (named "ones" (query (is 3 (long (pos 1))))) colors
    (facet (named "prices" (range (record (range_on 3 (pos 0) (pos 4) (pos 2)) { between = true; after = true }))) colors no_nodes))

-- a message of the root with the two facets
abbrev pub told : ℕ → (ones prices : Partials) → Partials
told n ones prices = partial whole (counted n) (row ones (row prices no_rows)) no_partials

abbrev pub one_red : Partials
one_red = leaf (key_of "red") 1 no_partials

abbrev pub one_blue : Partials
one_blue = leaf (key_of "blue") 1 no_partials

pub first_answer : answer_of 0 request products first
    ≡ told 1 (branch whole 1 one_red no_partials) (branch (gap 0) 1 one_red (branch (gap 1) 0 no_partials (branch between 1 one_red (branch after 0 no_partials no_partials))))
first_answer = refl

-- no product of shard 1 is red
pub second_answer : answer_of 1 request products first
    ≡ told 0 (branch whole 0 one_blue no_partials) (branch (gap 0) 0 one_blue (branch (gap 1) 0 no_partials (branch between 0 one_blue (branch after 0 one_blue no_partials))))
second_answer = refl

pub one_round : heard_in (search_rounds request products) ≡ heard 1 0 ∷ heard 1 1 ∷ []
one_round = refl

pub shaped : all_shaped request (search_rounds request products) ≡ true
shaped = refl

pub both_shards : AllSay request products
    (codes "{\"count\":1,\"ones\":{\"colors\":{\"buckets\":[{\"count\":1,\"val\":\"blue\"},{\"count\":1,\"val\":\"red\"}]},\"count\":1},\"prices\":{\"after\":{\"colors\":{\"buckets\":[{\"count\":1,\"val\":\"blue\"}]},\"count\":0},\"between\":{\"colors\":{\"buckets\":[{\"count\":1,\"val\":\"blue\"},{\"count\":1,\"val\":\"red\"}]},\"count\":1},\"buckets\":[{\"colors\":{\"buckets\":[{\"count\":1,\"val\":\"blue\"},{\"count\":1,\"val\":\"red\"}]},\"count\":1,\"val\":0},{\"colors\":{\"buckets\":[]},\"count\":0,\"val\":2}]}}")
unfolding written
both_shards = ((refl, refl), refl)
