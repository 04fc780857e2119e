-- Which messages have the shape that their ask demands: all answers, and none with a key out of order, a value too many, an empty bucket or a statistic too few.
use Rattle.std.specs.Prelude.{◌≡◌, ℕ, pos, List, [], ◌∷◌, Bool, true, false, Some, None, refl, codes}
use Rattle.fc_spec.specs.documents.Val.{long}
use Rattle.fc_spec.specs.queries.Query.{all}
use Rattle.fc_spec.specs.requests.Request.{sum, min, Terms, Kind, terms, range, query, no_nodes, statistic, facet, Request}
use Rattle.fc_spec.specs.requests.Buckets.{Key, value, missing, gap, before, between, after, whole}
use Rattle.fc_spec.specs.requests.Statistics.{StatValue, number, extreme}
use Rattle.fc_spec.specs.messages.Message.{Partials, no_partials, partial, Rows, no_rows, row, Ask, first, more}
use Rattle.fc_spec.specs.messages.MessageShape.{is_shaped}
use Rattle.fc_spec.specs.messages.Rounds.{search_rounds}
use Rattle.fc_rows.proofs.Words.{unlimited_on, range_on, stat, no_change, named, changed, asking}
use Rattle.fc_rows.proofs.messages.MessageWords.{key_of, counted, leaf, around, want, all_shaped}
use Rattle.fc_rows.proofs.replies.ShortCount as short_count
use Rattle.fc_rows.proofs.replies.NestedRefining as nested_refining
use Rattle.fc_rows.proofs.replies.Shop as shop
use Rattle.fc_rows.proofs.replies.MissingBucket as missing_bucket
use Rattle.fc_rows.proofs.replies.RangeEnds as range_ends
use Rattle.fc_rows.proofs.replies.SecondEverywhere as second_everywhere
use Rattle.fc_rows.proofs.messages.EmptyRootRounds as empty_root

-- the answers of worked examples
pub short_count_shaped : all_shaped (short_count.asking_one short_count.refined) (search_rounds (short_count.asking_one short_count.refined) short_count.documents) ≡ true
short_count_shaped = refl

pub nested_shaped : all_shaped nested_refining.request (search_rounds nested_refining.request nested_refining.documents) ≡ true
nested_shaped = refl

pub shop_shaped : all_shaped shop.request (search_rounds shop.request shop.products) ≡ true
shop_shaped = refl

pub missing_shaped : all_shaped missing_bucket.request (search_rounds missing_bucket.request missing_bucket.documents) ≡ true
missing_shaped = refl

pub ranges_shaped : all_shaped (range_ends.asking_one range_ends.by_four) (search_rounds (range_ends.asking_one range_ends.by_four) range_ends.documents) ≡ true
ranges_shaped = refl

pub two_offered_shaped : all_shaped (second_everywhere.asking_for 1) (search_rounds (second_everywhere.asking_for 1) second_everywhere.documents) ≡ true
two_offered_shaped = refl

pub empty_root_shaped : all_shaped empty_root.request (search_rounds empty_root.request short_count.documents) ≡ true
empty_root_shaped = refl

-- a first message that lists these buckets of a range facet with three gaps, and of one without after
abbrev pub range_shaped : Partials → Bool
range_shaped ps = is_shaped (range_ends.asking_one range_ends.by_four) first (around whole 5 ps)

abbrev pub range_shaped_without_after : Partials → Bool
range_shaped_without_after ps = is_shaped (range_ends.asking_one (record range_ends.by_four { after = false })) first (around whole 5 ps)

pub all_in_order : range_shaped (leaf (gap 0) 1 (leaf (gap 2) 1 (leaf before 1 (leaf between 1 (leaf after 1 no_partials))))) ≡ true
all_in_order = refl

pub nothing_listed : range_shaped no_partials ≡ true
nothing_listed = refl

pub between_first : range_shaped (leaf between 1 (leaf before 1 no_partials)) ≡ false
between_first = refl

pub after_first : range_shaped (leaf after 1 (leaf between 1 no_partials)) ≡ false
after_first = refl

pub before_first : range_shaped (leaf before 1 (leaf (gap 0) 1 no_partials)) ≡ false
before_first = refl

pub gaps_backwards : range_shaped (leaf (gap 1) 1 (leaf (gap 0) 1 no_partials)) ≡ false
gaps_backwards = refl

pub gap_twice : range_shaped (leaf (gap 1) 1 (leaf (gap 1) 1 no_partials)) ≡ false
gap_twice = refl

pub gap_not_there : range_shaped (leaf (gap 3) 1 no_partials) ≡ false
gap_not_there = refl

pub empty_gap : range_shaped (leaf (gap 1) 0 no_partials) ≡ false
empty_gap = refl

pub not_asked : range_shaped_without_after (leaf between 1 (leaf after 1 no_partials)) ≡ false
not_asked = refl

pub value_in_range : range_shaped (leaf (value (long (pos 0))) 1 no_partials) ≡ false
value_in_range = refl

-- one that lists these buckets of a terms facet
abbrev pub terms_shaped : Terms → Partials → Bool
terms_shaped t ps = is_shaped (short_count.asking_one t) first (around whole 5 ps)

-- limit 1, and what a shard offers beyond it
abbrev pub one_value : Terms
one_value = short_count.first_alone

abbrev pub two_values : Terms
two_values = record one_value { overrequest = 1 }

pub one_listed : terms_shaped one_value (leaf (key_of "a") 3 no_partials) ≡ true
one_listed = refl

pub value_too_many : terms_shaped one_value (leaf (key_of "a") 3 (leaf (key_of "b") 2 no_partials)) ≡ false
value_too_many = refl

pub two_listed : terms_shaped two_values (leaf (key_of "a") 3 (leaf (key_of "b") 2 no_partials)) ≡ true
two_listed = refl

pub third_too_many : terms_shaped two_values (leaf (key_of "a") 3 (leaf (key_of "b") 2 (leaf (key_of "c") 2 no_partials))) ≡ false
third_too_many = refl

pub offset_listed : terms_shaped (record one_value { offset = 1 }) (leaf (key_of "a") 3 (leaf (key_of "b") 2 no_partials)) ≡ true
offset_listed = refl

pub no_limit : terms_shaped (unlimited_on 1) (leaf (key_of "a") 3 (leaf (key_of "b") 2 (leaf (key_of "c") 2 no_partials))) ≡ true
no_limit = refl

-- in index order, and not in that of the counts
pub values_backwards : terms_shaped two_values (leaf (key_of "b") 3 (leaf (key_of "a") 2 no_partials)) ≡ false
values_backwards = refl

pub empty_value : terms_shaped one_value (leaf (key_of "a") 0 no_partials) ≡ false
empty_value = refl

-- missing stands behind the values, is not counted among them, and only where asked
pub missing_listed : terms_shaped (record one_value { missing = true }) (leaf (key_of "a") 3 (leaf missing 1 no_partials)) ≡ true
missing_listed = refl

pub missing_ahead : terms_shaped (record one_value { missing = true }) (leaf missing 1 (leaf (key_of "a") 3 no_partials)) ≡ false
missing_ahead = refl

pub empty_missing : terms_shaped (record one_value { missing = true }) (leaf (key_of "a") 3 (leaf missing 0 no_partials)) ≡ false
empty_missing = refl

pub missing_not_asked : terms_shaped one_value (leaf missing 1 no_partials) ≡ false
missing_not_asked = refl

-- values that begin with the prefix
pub with_prefix : terms_shaped (record one_value { prefix = Some (codes "a") }) (leaf (key_of "ab") 1 no_partials) ≡ true
with_prefix = refl

pub without_prefix : terms_shaped (record one_value { prefix = Some (codes "a") }) (leaf (key_of "ba") 1 no_partials) ≡ false
without_prefix = refl

pub integer_with_prefix : terms_shaped (record one_value { prefix = Some (codes "") }) (leaf (value (long (pos 1))) 1 no_partials) ≡ false
integer_with_prefix = refl

-- a query facet lists its whole bucket, once
abbrev pub query_shaped : Partials → Bool
query_shaped ps = is_shaped (asking (facet (named "q" (query all)) no_nodes no_nodes)) first (around whole 5 ps)

pub empty_whole : query_shaped (leaf whole 0 no_partials) ≡ true
empty_whole = refl

pub no_whole : query_shaped no_partials ≡ false
no_whole = refl

pub two_wholes : query_shaped (leaf whole 1 (leaf whole 1 no_partials)) ≡ false
two_wholes = refl

-- two statistics with a facet between them: a least price and a sum
abbrev pub measured : Request
measured = asking (facet (named "c" (terms (unlimited_on 1))) (statistic (codes "a") (stat min 2) (facet (named "b" (query all)) no_nodes (statistic (codes "z") (stat sum 2) no_nodes))) no_nodes)

-- a value with these statistics and nested lists
abbrev pub measured_shaped : List StatValue → Rows → Bool
measured_shaped values inside = is_shaped measured first (around whole 5 (partial (key_of "a") (record { count = 1; values = values }) inside no_partials))

-- a list for each facet
abbrev pub one_list : Rows
one_list = row (leaf whole 1 no_partials) no_rows

pub both_statistics : measured_shaped (extreme (Some (pos 4)) ∷ number (pos 9) ∷ []) one_list ≡ true
both_statistics = refl

pub absent_least : measured_shaped (extreme None ∷ number (pos 0) ∷ []) one_list ≡ true
absent_least = refl

pub statistic_too_few : measured_shaped (extreme (Some (pos 4)) ∷ []) one_list ≡ false
statistic_too_few = refl

pub no_statistic : measured_shaped [] one_list ≡ false
no_statistic = refl

pub statistic_too_many : measured_shaped (extreme (Some (pos 4)) ∷ number (pos 9) ∷ number (pos 9) ∷ []) one_list ≡ false
statistic_too_many = refl

pub statistics_swapped : measured_shaped (number (pos 9) ∷ extreme (Some (pos 4)) ∷ []) one_list ≡ false
statistics_swapped = refl

pub number_for_least : measured_shaped (number (pos 4) ∷ number (pos 9) ∷ []) one_list ≡ false
number_for_least = refl

pub list_too_few : measured_shaped (extreme None ∷ number (pos 0) ∷ []) no_rows ≡ false
list_too_few = refl

pub list_too_many : measured_shaped (extreme None ∷ number (pos 0) ∷ []) (row (leaf whole 1 no_partials) (row no_partials no_rows)) ≡ false
list_too_many = refl

pub list_of_statistic : measured_shaped (extreme None ∷ number (pos 0) ∷ []) (row no_partials (row (leaf whole 1 no_partials) no_rows)) ≡ false
list_of_statistic = refl

-- a first message has one bucket, the whole, whatever its count
abbrev pub root_shaped : Partials → Bool
root_shaped m = is_shaped (asking no_nodes) first m

pub empty_root_bucket : root_shaped (leaf whole 0 no_partials) ≡ true
empty_root_bucket = refl

pub no_root : root_shaped no_partials ≡ false
no_root = refl

pub two_roots : root_shaped (leaf whole 1 (leaf whole 1 no_partials)) ≡ false
two_roots = refl

pub other_root : root_shaped (leaf missing 1 no_partials) ≡ false
other_root = refl

-- another message one bucket for each want, in their order
abbrev pub asked_for_two : Ask
asked_for_two = more (want [] 0 (key_of "a") ∷ want [] 0 (key_of "c") ∷ [])

abbrev pub wants_shaped : Partials → Bool
wants_shaped m = is_shaped (short_count.asking_one one_value) asked_for_two m

pub both_wants : wants_shaped (leaf (key_of "a") 0 (leaf (key_of "c") 3 no_partials)) ≡ true
both_wants = refl

pub wants_swapped : wants_shaped (leaf (key_of "c") 3 (leaf (key_of "a") 0 no_partials)) ≡ false
wants_swapped = refl

pub want_too_few : wants_shaped (leaf (key_of "a") 0 no_partials) ≡ false
want_too_few = refl

pub want_too_many : wants_shaped (leaf (key_of "a") 0 (leaf (key_of "c") 3 (leaf (key_of "c") 3 no_partials))) ≡ false
want_too_many = refl

-- read with the wanted node: nothing is nested in it
pub want_with_list : wants_shaped (partial (key_of "a") (counted 1) (row no_partials no_rows) (leaf (key_of "c") 3 no_partials)) ≡ false
want_with_list = refl

-- ---- facets that hold an exclusion

-- a facet in which another one excludes a tag
abbrev pub holding : Kind → Request
holding kind = asking (facet (named "c" kind) (facet (changed "x" (record no_change { exclude = codes "T" ∷ [] }) (terms (unlimited_on 1))) no_nodes no_nodes) no_nodes)

-- one bucket of it, with nothing inside
abbrev pub holding_shaped : Kind → Key → ℕ → Bool
holding_shaped kind key n = is_shaped (holding kind) first (around whole 0 (partial key (counted n) (row no_partials no_rows) no_partials))

pub gap_of_nothing : holding_shaped (range (range_on 1 (pos 0) (pos 8) (pos 4))) (gap 0) 0 ≡ true
gap_of_nothing = refl

pub missing_of_nothing : holding_shaped (terms (record (unlimited_on 1) { missing = true })) missing 0 ≡ true
missing_of_nothing = refl

pub value_of_nothing : holding_shaped (terms (unlimited_on 1)) (key_of "a") 0 ≡ false
value_of_nothing = refl
