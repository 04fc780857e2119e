-- What a shard lists: buckets that are not empty, and as many values as it is asked to offer.
use Rattle.std.specs.Prelude.{◌≡◌, pos, [], ◌∷◌, true, false, refl, codes, ℕ}
use Rattle.fc_spec.specs.documents.World.{World}
use Rattle.fc_spec.specs.requests.Request.{countvals, Range, terms, query, no_nodes, statistic, facet, Request}
use Rattle.fc_spec.specs.requests.Buckets.{missing, gap, before, between, after, whole, Key}
use Rattle.fc_spec.specs.requests.Statistics.{number}
use Rattle.fc_spec.specs.messages.Message.{Partials, no_partials, partial, no_rows, first, more}
use Rattle.fc_spec.specs.messages.Answer.{answer}
use Rattle.fc_spec.specs.messages.Rounds.{search_rounds}
use Rattle.fc_rows.proofs.Words.{written, labelled, says, terms_on, unlimited_on, stat, named, asking}
use Rattle.fc_rows.proofs.messages.MessageWords.{answer_of, key_of, leaf, around, want, heard, heard_in, merged_text}
use Rattle.fc_rows.proofs.replies.ShortCount as short_count
use Rattle.fc_rows.proofs.replies.MissingBucket as missing_bucket
use Rattle.fc_rows.proofs.replies.RangeEnds as range_ends
use Rattle.fc_rows.proofs.replies.SecondEverywhere as second_everywhere
use Rattle.fc_rows.proofs.replies.SecondStatistic as second_statistic

-- a bucket with the number of its ids, before others
abbrev pub with_ids : Key → ℕ → Partials → Partials
with_ids key n rest = partial key (record { count = n; values = number (pos n) ∷ [] }) no_rows rest

-- the first shard has a document without a value, the second has none and does not list the bucket
pub missing_listed : answer_of 0 missing_bucket.request missing_bucket.documents first ≡ around whole 2 (with_ids (key_of "a") 1 (with_ids missing 1 no_partials))
missing_listed = refl

pub missing_not_listed : answer_of 1 missing_bucket.request missing_bucket.documents first ≡ around whole 1 (with_ids (key_of "a") 1 no_partials)
missing_not_listed = refl

-- nor does the first, where it is not asked for
abbrev pub not_asked : Request
not_asked = asking (facet (named "c" (terms (terms_on 1))) (statistic (codes "n") (stat countvals 0) no_nodes) no_nodes)

pub missing_not_asked : answer_of 0 not_asked missing_bucket.documents first ≡ around whole 2 (with_ids (key_of "a") 1 no_partials)
missing_not_asked = refl

-- a want of it is answered whatever its count
pub missing_asked : answer_of 1 missing_bucket.request missing_bucket.documents (more (want [] 0 missing ∷ [])) ≡ with_ids missing 0 no_partials
missing_asked = refl

pub missing_merged : merged_text missing_bucket.request (search_rounds missing_bucket.request missing_bucket.documents)
    ≡ codes "{\"c\":{\"buckets\":[{\"count\":2,\"n\":2,\"val\":\"a\"}],\"missing\":{\"count\":1,\"n\":1}},\"count\":3}"
unfolding written
missing_merged = refl

-- no number is before the start, so this bucket is not listed; the others are, in the order of keys
pub ranges_listed : answer_of 0 (range_ends.asking_one range_ends.by_four) range_ends.documents first
    ≡ around whole 5 (leaf (gap 0) 1 (leaf (gap 1) 1 (leaf (gap 2) 2 (leaf between 4 (leaf after 1 no_partials)))))
ranges_listed = refl

-- from 4 on one number is before the start
abbrev pub from_four : Range
from_four = record range_ends.by_four { start = pos 4 }

pub all_listed : answer_of 0 (range_ends.asking_one from_four) range_ends.documents first
    ≡ around whole 5 (leaf (gap 0) 1 (leaf (gap 1) 2 (leaf before 1 (leaf between 3 (leaf after 1 no_partials)))))
all_listed = refl

-- an empty gap is not listed either
pub empty_gap_not_listed : answer_of 0 (range_ends.asking_one (record range_ends.by_four { lower = false; edge = true })) range_ends.documents first
    ≡ around whole 5 (leaf (gap 0) 1 (leaf (gap 2) 2 (leaf between 5 no_partials)))
empty_gap_not_listed = refl

-- a query facet lists its bucket whatever its count
abbrev pub for_z : Request
for_z = asking (facet (named "q" (query (says 1 "z"))) no_nodes no_nodes)

pub whole_listed : answer_of 0 for_z short_count.documents first ≡ around whole 5 (leaf whole 0 no_partials)
whole_listed = refl

-- with one more than its limit each shard offers two values
pub two_offered : answer_of 0 (second_everywhere.asking_for 1) second_everywhere.documents first ≡ around whole 5 (leaf (key_of "a") 3 (leaf (key_of "b") 2 no_partials))
two_offered = refl

pub one_offered : answer_of 0 (second_everywhere.asking_for 0) second_everywhere.documents first ≡ around whole 5 (leaf (key_of "a") 3 no_partials)
one_offered = refl

-- as many as the offset and the limit ask for, in index order, whatever the least count that is printed
pub offset_offered : answer_of 1 (short_count.asking_one (record short_count.first_alone { offset = 1 })) short_count.documents first ≡ around whole 4 (leaf (key_of "a") 1 (leaf (key_of "c") 3 no_partials))
offset_offered = refl

pub below_mincount_offered : answer_of 0 (short_count.asking_one (record short_count.first_alone { mincount = 4 })) short_count.documents first ≡ around whole 5 (leaf (key_of "a") 3 no_partials)
below_mincount_offered = refl

pub all_offered : answer_of 1 (short_count.asking_one (unlimited_on 1)) short_count.documents first ≡ around whole 4 (leaf (key_of "a") 1 (leaf (key_of "c") 3 no_partials))
all_offered = refl

-- two statistics, each by its number
pub second_statistic_merged : merged_text second_statistic.request (search_rounds second_statistic.request second_statistic.documents)
    ≡ codes "{\"c\":{\"buckets\":[{\"count\":1,\"hi\":5,\"lo\":5,\"val\":\"b\"},{\"count\":1,\"hi\":3,\"lo\":3,\"val\":\"c\"},{\"count\":2,\"hi\":9,\"lo\":1,\"val\":\"a\"}]},\"count\":4}"
unfolding written
second_statistic_merged = refl

-- the value with four is chosen, and both have told of it
pub one_round : heard_in (search_rounds (second_everywhere.asking_for 1) second_everywhere.documents) ≡ heard 1 0 ∷ heard 1 1 ∷ []
one_round = refl

pub found_merged : merged_text (second_everywhere.asking_for 1) (search_rounds (second_everywhere.asking_for 1) second_everywhere.documents) ≡ codes "{\"c\":{\"buckets\":[{\"count\":4,\"val\":\"b\"}]},\"count\":10}"
unfolding written
found_merged = refl

pub passed_over_merged : merged_text (second_everywhere.asking_for 0) (search_rounds (second_everywhere.asking_for 0) second_everywhere.documents) ≡ codes "{\"c\":{\"buckets\":[{\"count\":3,\"val\":\"a\"}]},\"count\":10}"
unfolding written
passed_over_merged = refl

-- the same blocks at another shard's number, beside other shards, give the same answer
abbrev pub moved : World
moved = [] ∷ (labelled "x" "y" ∷ []) ∷ (labelled "1" "a" ∷ labelled "2" "a" ∷ labelled "3" "a" ∷ labelled "4" "b" ∷ labelled "5" "b" ∷ []) ∷ []

pub moved_answer : answer (second_everywhere.asking_for 1) moved 2 first ≡ around whole 5 (leaf (key_of "a") 3 (leaf (key_of "b") 2 no_partials))
moved_answer = refl
