-- A value that is second on each shard and first over both, asked for exactly.
use Rattle.std.specs.Prelude.{◌≡◌, List, [], ◌∷◌, true, refl, codes}
use Rattle.fc_spec.specs.documents.Val.{Val, text}
use Rattle.fc_spec.specs.queries.Query.{is}
use Rattle.fc_spec.specs.requests.Request.{Terms, terms, query, Nodes, no_nodes, facet, Request}
use Rattle.fc_spec.specs.requests.Buckets.{whole}
use Rattle.fc_spec.specs.replies.Distributed.{distributed}
use Rattle.fc_spec.specs.replies.WithTops.{with_tops}
use Rattle.fc_spec.specs.replies.Tops.{tops_of, only_exact, replaced, replaced_nodes}
use Rattle.fc_spec.specs.replies.Restored.{restored}
use Rattle.fc_spec.specs.replies.Json.{facets_text}
use Rattle.fc_spec.specs.messages.Message.{no_partials}
use Rattle.fc_spec.specs.messages.Rounds.{search_rounds}
use Rattle.fc_spec.specs.messages.TopRounds.{exact_first, exact_least, exact_more, exact_answer, exact_told_in, tops_told, exact_rounds}
use Rattle.fc_spec.specs.messages.WholeTrace.{whole_trace}
use Rattle.fc_rows.proofs.Words.{written, limited_on, named, asking}
use Rattle.fc_rows.proofs.messages.MessageWords.{key_of, leaf, around, want, heard, heard_in}
use Rattle.fc_rows.proofs.replies.ExactWords.{asked, asked_in, sent}
use Rattle.fc_rows.proofs.replies.SecondEverywhere.{documents}

-- one bucket, found exactly; no shard offers its value
abbrev pub first_exactly : Terms
first_exactly = record (limited_on 1 1) { refine = true; exact = true; overrequest = 0 }

abbrev pub request : Request
request = asking (facet (named "c" (terms first_exactly)) no_nodes no_nodes)

pub found_exactly : facets_text (with_tops request documents) ≡ codes "{\"c\":{\"buckets\":[{\"count\":4,\"val\":\"b\"}]},\"count\":10}"
unfolding written
found_exactly = refl

-- the one list of b
abbrev pub tops : List (List Val)
tops = (text (codes "b") ∷ []) ∷ []

pub top_is_b : tops_of request documents ≡ tops
top_is_b = refl

-- a query facet of b stands in its place
abbrev pub query_of_b : Nodes
query_of_b = facet (named "c" (query (is 1 (text (codes "b"))))) no_nodes no_nodes

pub replaced_by_b : replaced_nodes request.nodes tops ≡ query_of_b
replaced_by_b = refl

pub its_reply : facets_text (distributed (replaced request tops) documents) ≡ codes "{\"c\":{\"count\":4},\"count\":10}"
unfolding written
its_reply = refl

-- ---- the rounds

-- both shards offer; both list from 2 on, a share of 3; the first is asked for c and the second for a
pub six_messages : asked_in (exact_rounds (only_exact request) documents)
    ≡ asked 1 0 exact_first ∷ asked 1 1 exact_first ∷ asked 2 0 (exact_least (2 ∷ [])) ∷ asked 2 1 (exact_least (2 ∷ []))
    ∷ asked 3 0 (exact_more (want [] 0 (key_of "c") ∷ [])) ∷ asked 3 1 (exact_more (want [] 0 (key_of "a") ∷ [])) ∷ []
six_messages = refl

-- from 2 on the first shard lists a and b
pub listed_from_two : exact_answer (only_exact request) documents 0 (exact_least (2 ∷ [])) ≡ around whole 5 (leaf (key_of "a") 3 (leaf (key_of "b") 2 no_partials))
listed_from_two = refl

pub tops_are_told : tops_told (only_exact request) 2 (exact_told_in (exact_rounds (only_exact request) documents)) ≡ tops
tops_are_told = refl

-- then both answer the request with the query facet
pub last_round : heard_in (search_rounds (replaced request tops) documents) ≡ heard 1 0 ∷ heard 1 1 ∷ []
last_round = refl

-- two messages in each of four rounds
pub eight_messages : whole_trace request documents
    ≡ sent 1 0 76 ∷ sent 1 1 76 ∷ sent 2 0 110 ∷ sent 2 1 110 ∷ sent 3 0 43 ∷ sent 3 1 43 ∷ sent 4 0 67 ∷ sent 4 1 67 ∷ []
eight_messages = refl

-- its reply put together again
pub reply_again : facets_text (restored request tops (distributed (replaced request tops) documents)) ≡ codes "{\"c\":{\"buckets\":[{\"count\":4,\"val\":\"b\"}]},\"count\":10}"
unfolding written
reply_again = refl
