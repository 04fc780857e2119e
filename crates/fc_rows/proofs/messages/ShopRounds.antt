-- The rounds of the shop: one shard lacks one brand, and the messages merge into the shop's reply.
use Rattle.std.specs.Prelude.{◌≡◌, pos, [], ◌∷◌, refl, codes}
use Rattle.fc_spec.specs.requests.Statistics.{number}
use Rattle.fc_spec.specs.messages.Message.{no_partials, partial, no_rows, more}
use Rattle.fc_spec.specs.messages.Rounds.{told_in, search_rounds}
use Rattle.fc_spec.specs.messages.Trace.{trace}
use Rattle.fc_rows.proofs.Words.{written}
use Rattle.fc_rows.proofs.messages.MessageWords.{answer_of, next_lacks_of, key_of, want, up_to_round, merged_text}
use Rattle.fc_rows.proofs.replies.Shop.{products, request}

-- the first shard has no product of this brand, and does not offer it
pub one_lack : next_lacks_of 2 request (told_in request.nodes (up_to_round 1 request products)) 1 0 ≡ record { shard = 0; want = want [] 0 (key_of "nix") } ∷ []
one_lack = refl

-- its answer has no place, and a sum of none; the bucket has a list for its statistic, which is not sent
pub empty_answer : answer_of 0 request products (more (want [] 0 (key_of "nix") ∷ []))
    ≡ partial (key_of "nix") (record { count = 0; values = number (pos 0) ∷ [] }) no_rows no_partials
empty_answer = refl

-- a bucket takes 24 bytes, its key and 9 for a sum; a list takes 8
pub two_rounds : trace request products
    ≡ record { round = 1; shard = 0; length = 461 } ∷ record { round = 1; shard = 1; length = 506 } ∷ record { round = 2; shard = 0; length = 54 } ∷ []
two_rounds = refl

pub merged_reply : merged_text request (search_rounds request products)
    ≡ codes "{\"brands\":{\"buckets\":[{\"count\":2,\"total\":25,\"val\":\"acme\"},{\"count\":2,\"total\":145,\"val\":\"orb\"},{\"count\":2,\"total\":85,\"val\":\"zen\"}]},\"colors\":{\"buckets\":[{\"count\":4,\"val\":\"red\"},{\"count\":3,\"val\":\"blue\"},{\"count\":2,\"val\":\"green\"}]},\"count\":4,\"prices\":{\"buckets\":[{\"count\":2,\"makers\":{\"buckets\":[{\"count\":2,\"val\":\"acme\"}]},\"val\":0},{\"count\":2,\"makers\":{\"buckets\":[{\"count\":2,\"val\":\"zen\"}]},\"val\":40}]},\"total\":110}"
unfolding written
merged_reply = refl
