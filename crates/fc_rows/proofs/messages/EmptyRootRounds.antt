-- A root without places: the facet that excludes the filter is printed and refined all the same, the other is not.
use Rattle.std.specs.Prelude.{◌≡◌, [], ◌∷◌, refl, codes}
use Rattle.fc_spec.specs.queries.Query.{all}
use Rattle.fc_spec.specs.requests.Request.{terms, query, no_nodes, facet, Request}
use Rattle.fc_spec.specs.requests.Buckets.{whole}
use Rattle.fc_spec.specs.messages.Message.{no_partials, partial, no_rows, row, first}
use Rattle.fc_spec.specs.messages.Rounds.{told_in, search_rounds}
use Rattle.fc_rows.proofs.Words.{written, says, no_change, named, changed, tagged}
use Rattle.fc_rows.proofs.messages.MessageWords.{answer_of, next_lacks_of, key_of, counted, leaf, want, heard, heard_in, up_to_round, merged_text}
use Rattle.fc_rows.proofs.replies.ShortCount.{documents, refined}

-- no document has this value; `back` leaves the filter out again
abbrev pub request : Request
request = record {
  query = all;
  filters = tagged "T" (says 1 "z") ∷ [];
  nodes =
      facet (changed "back" (record no_change { exclude = codes "T" ∷ [] }) (terms refined)) no_nodes
      (facet (named "c" (terms refined)) no_nodes no_nodes);
}

pub first_answer : answer_of 0 request documents first ≡ partial whole (counted 0) (row (leaf (key_of "a") 3 no_partials) (row no_partials no_rows)) no_partials
first_answer = refl

pub one_lack : next_lacks_of 2 request (told_in request.nodes (up_to_round 1 request documents)) 1 0 ≡ record { shard = 1; want = want [] 0 (key_of "a") } ∷ []
one_lack = refl

pub two_rounds : heard_in (search_rounds request documents) ≡ heard 1 0 ∷ heard 1 1 ∷ heard 2 1 ∷ []
two_rounds = refl

pub merged_reply : merged_text request (search_rounds request documents) ≡ codes "{\"back\":{\"buckets\":[{\"count\":4,\"val\":\"a\"}]},\"count\":0}"
unfolding written
merged_reply = refl

-- what excludes the filter inside a facet that is not printed is not printed, and nothing is asked for there
abbrev pub hidden : Request
hidden = record request { nodes = facet (named "all" (query all)) (facet (changed "back" (record no_change { exclude = codes "T" ∷ [] }) (terms refined)) no_nodes no_nodes) no_nodes }

pub one_round : heard_in (search_rounds hidden documents) ≡ heard 1 0 ∷ heard 1 1 ∷ []
one_round = refl
