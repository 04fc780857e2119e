-- The rounds of a nested exclusion: a facet that holds one asks the shards that offer nothing, and is answered with buckets without places.
use Rattle.std.specs.Prelude.{◌≡◌, [], ◌∷◌, true, refl, codes}
use Rattle.fc_spec.specs.messages.Message.{no_partials, partial, no_rows, row, first, more}
use Rattle.fc_spec.specs.messages.Rounds.{search_rounds, told_in}
use Rattle.fc_spec.specs.requests.Buckets.{whole}
use Rattle.fc_rows.proofs.Words.{written}
use Rattle.fc_rows.proofs.messages.MessageWords.{answer_of, next_lacks_of, key_of, counted, leaf, around, want, heard, heard_in, up_to_round, all_shaped, merged_text}
use Rattle.fc_rows.proofs.replies.NestedExclusion.{products, request}

-- shard 1 lists no brand
pub first_answers : (answer_of 0 request products first ≡ around whole 1 (partial (key_of "acme") (counted 1) (row (leaf (key_of "red") 1 no_partials) no_rows) no_partials)) × (answer_of 1 request products first ≡ around whole 0 no_partials)
first_answers = (refl, refl)

-- and is asked for the one that is chosen
pub one_lack : next_lacks_of 2 request (told_in request.nodes (up_to_round 1 request products)) 2 0 ≡ record { shard = 1; want = want [] 0 (key_of "acme") } ∷ []
one_lack = refl

-- it has no product of it in the root domain, and one where the tag is left out
pub second_answer : answer_of 1 request products (more (want [] 0 (key_of "acme") ∷ [])) ≡ around (key_of "acme") 0 (leaf (key_of "blue") 1 no_partials)
second_answer = refl

pub two_rounds : heard_in (search_rounds request products) ≡ heard 1 0 ∷ heard 1 1 ∷ heard 2 1 ∷ []
two_rounds = refl

pub shaped : all_shaped request (search_rounds request products) ≡ true
shaped = refl

pub merged_reply : merged_text request (search_rounds request products) ≡ codes "{\"brands\":{\"buckets\":[{\"colors\":{\"buckets\":[{\"count\":1,\"val\":\"blue\"},{\"count\":1,\"val\":\"red\"}]},\"count\":1,\"val\":\"acme\"}]},\"count\":1}"
unfolding written
merged_reply = refl
