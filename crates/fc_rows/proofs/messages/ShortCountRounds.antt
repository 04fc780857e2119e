-- The rounds of a short count and of its refined form: who answers, who is asked again, what the messages merge into in any order.
use Rattle.std.specs.Prelude.{◌≡◌, ℕ, List, [], ◌∷◌, ◌++◌, refl, codes}
use Rattle.fc_spec.specs.requests.Request.{Request}
use Rattle.fc_spec.specs.requests.Buckets.{whole}
use Rattle.fc_spec.specs.messages.Message.{no_partials, Ask, first, more}
use Rattle.fc_spec.specs.messages.Lacks.{Lack}
use Rattle.fc_spec.specs.messages.Rounds.{SentMessage, told_in, wants_of, sent_by, search_rounds}
use Rattle.fc_spec.specs.messages.Trace.{trace}
use Rattle.fc_rows.proofs.Words.{written}
use Rattle.fc_rows.proofs.messages.MessageWords.{answer_of, next_lacks_of, lacks_of, key_of, leaf, around, want, heard, heard_in, up_to_round, merged_text}
use Rattle.fc_rows.proofs.replies.ShortCount.{documents, asking_one, first_alone, refined}

-- each shard offers its first value alone
pub first_answer : answer_of 0 (asking_one first_alone) documents first ≡ around whole 5 (leaf (key_of "a") 3 no_partials)
first_answer = refl

pub second_answer : answer_of 1 (asking_one first_alone) documents first ≡ around whole 4 (leaf (key_of "c") 3 no_partials)
second_answer = refl

-- without refining there is one round, and the count is short
pub one_round : heard_in (search_rounds (asking_one first_alone) documents) ≡ heard 1 0 ∷ heard 1 1 ∷ []
one_round = refl

pub short_merged : merged_text (asking_one first_alone) (search_rounds (asking_one first_alone) documents) ≡ codes "{\"c\":{\"buckets\":[{\"count\":3,\"val\":\"a\"}]},\"count\":9}"
unfolding written
short_merged = refl

-- refined, the shard that did not offer the chosen value is asked for it
abbrev pub request : Request
request = asking_one refined

pub two_rounds : heard_in (search_rounds request documents) ≡ heard 1 0 ∷ heard 1 1 ∷ heard 2 1 ∷ []
two_rounds = refl

pub two_rounds_sent : trace request documents
    ≡ record { round = 1; shard = 0; length = 76 } ∷ record { round = 1; shard = 1; length = 76 } ∷ record { round = 2; shard = 1; length = 43 } ∷ []
two_rounds_sent = refl

-- what lacks after the first round
abbrev pub lacking : List Lack
lacking = next_lacks_of 2 request (told_in request.nodes (up_to_round 1 request documents)) 1 0

pub one_lack : lacking ≡ record { shard = 1; want = want [] 0 (key_of "a") } ∷ []
one_lack = refl

pub first_shard_wants : wants_of 0 lacking ≡ []
first_shard_wants = refl

pub second_shard_wants : wants_of 1 lacking ≡ want [] 0 (key_of "a") ∷ []
second_shard_wants = refl

pub nothing_lacks : lacks_of 2 request (told_in request.nodes (search_rounds request documents)) 0 ≡ []
nothing_lacks = refl

-- its answer is one bucket with nothing nested
abbrev pub ask_for_a : Ask
ask_for_a = more (want [] 0 (key_of "a") ∷ [])

pub asked_answer : answer_of 1 request documents ask_for_a ≡ leaf (key_of "a") 1 no_partials
asked_answer = refl

pub refined_merged : merged_text request (search_rounds request documents) ≡ codes "{\"c\":{\"buckets\":[{\"count\":4,\"val\":\"a\"}]},\"count\":9}"
unfolding written
refined_merged = refl

-- the messages of each shard
abbrev pub by : ℕ → Ask → SentMessage
by shard ask = sent_by request documents round shard ask
  where
    round : ℕ
    round = 1

-- the second shard answers first
pub swapped_merged : merged_text request (by 1 first ∷ by 0 first ∷ by 1 ask_for_a ∷ []) ≡ codes "{\"c\":{\"buckets\":[{\"count\":4,\"val\":\"a\"}]},\"count\":9}"
unfolding written
swapped_merged = refl

-- one message comes twice, and the last one first
pub repeated_merged : merged_text request (by 1 ask_for_a ∷ by 1 first ∷ by 0 first ∷ by 1 first ∷ by 1 ask_for_a ∷ []) ≡ codes "{\"c\":{\"buckets\":[{\"count\":4,\"val\":\"a\"}]},\"count\":9}"
unfolding written
repeated_merged = refl

-- answers that nobody needs: a value that is not chosen, a value that nobody has, a node that is not there, a shard that is not there
abbrev pub needless : List SentMessage
needless = by 0 (more (want [] 0 (key_of "b") ∷ want [] 0 (key_of "z") ∷ want [] 3 (key_of "a") ∷ [])) ∷ by 7 first ∷ []

pub needless_merged : merged_text request (needless ++ search_rounds request documents) ≡ codes "{\"c\":{\"buckets\":[{\"count\":4,\"val\":\"a\"}]},\"count\":9}"
unfolding written
needless_merged = refl

-- without refining, a shard that tells of a value that it did not offer is not counted
pub untaken_merged : merged_text (asking_one first_alone) (by 1 ask_for_a ∷ by 1 first ∷ by 0 first ∷ []) ≡ codes "{\"c\":{\"buckets\":[{\"count\":3,\"val\":\"a\"}]},\"count\":9}"
unfolding written
untaken_merged = refl
