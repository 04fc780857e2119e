-- The fields, statistics and sorts that texts name are there.
use Rattle.std.proofs.Common.{◌≡◌, refl, ℕ, suc, ◌<◌, length, true, ◌||◌, not, Option, None, Some, IfSome, option_map, IfOk, ok_or, arith}
use Rattle.std.specs.Prelude.{codes}
use Rattle.std.proofs.lemmas.List.Quantifiers.{position-Some}
use Rattle.serde_json.specs.Data.{Data, Members}
use Rattle.serde_json.specs.Find.{get_member}
use Rattle.fc_spec.specs.documents.Val.{Text, same_text}
use Rattle.fc_spec.specs.documents.Schema.{Schema, Field, field_named, holds_texts}
use Rattle.fc_spec.specs.documents.Schema as schema
use Rattle.fc_spec.specs.requests.Request.{Sort, by_count, by_index, by_statistic, Nodes, no_nodes, statistic, facet, stats_of}
use Rattle.fc_spec.specs.requests.RequestFault.{unknown_field, bad_statistic, wrong_field_type, unknown_sort}
use Rattle.fc_spec.specs.requests.ValidRequests.{NamesStatistic, IsValidStatistic}
use Rattle.fc_spec.specs.requests.StatisticReading.{called, statistic_of, statistic_named, takes_texts, has_type}
use Rattle.fc_spec.specs.requests.SortReading.{named_sort, statistic_number, sort_key, sort_of, default_sort, sort_in}
use Rattle.fc_spec.specs.words.Walks.{unless}
use Rattle.fc_spec.proofs.words.Present.{either, mapped, weaker}
use Rattle.fc_spec.proofs.words.ReadingWords.{going_on, whatever, there, passed, if_there, or_right}

-- ---- fields

pub field_there : (s : Schema) (name : Text) → IfSome (field_named s name) (λ n. n < length s.fields)
field_there s name = at (field_named s name) refl
  where
    at : (o : Option ℕ) → field_named s name ≡ o → IfSome o (λ n. n < length s.fields)
    at None e = tt
    at (Some n) e = (position-Some (λ (f : Field). same_text name f.name) s.fields n (record { name = name; kind = schema.string }) e).0

-- ---- statistics

pub statistic_valid : (s : Schema) (t : Text) → IfOk (statistic_of s t) (IsValidStatistic s)
statistic_valid s t =
    let P = IsValidStatistic s in
    whatever P (ok_or (called t) bad_statistic) _
    (λ call. whatever P (ok_or (statistic_named call.0) bad_statistic) _
    (λ kind. going_on P (λ n. n < length s.fields) (ok_or (field_named s call.1) unknown_field) _ (there (λ n. n < length s.fields) (field_named s call.1) unknown_field (field_there s call.1))
    (λ field h. going_on P (λ w. (takes_texts kind || has_type s (λ k. not (holds_texts k)) field) ≡ true) (unless (takes_texts kind || has_type s (λ k. not (holds_texts k)) field) wrong_field_type) _ (passed (takes_texts kind || has_type s (λ k. not (holds_texts k)) field) wrong_field_type)
    (λ w e. record { field = h; of_integers = λ n. or_right (takes_texts kind) (has_type s (λ k. not (holds_texts k)) field) e n }))))

-- ---- sorts

number_there : (name : Text) (nodes : Nodes) → IfSome (statistic_number name nodes) (λ k. k < length (stats_of nodes))
number_there name no_nodes = tt
number_there name (statistic n s rest) =
    either (λ k. k < suc (length (stats_of rest))) (same_text name n) (Some 0) (option_map (λ k. suc k) (statistic_number name rest)) (omega arith)
    (mapped (λ k. k < suc (length (stats_of rest))) (statistic_number name rest) (λ k. suc k) (weaker (λ k. k < length (stats_of rest)) (λ k. suc k < suc (length (stats_of rest))) (statistic_number name rest) (λ k h. omega arith) (number_there name rest)))
number_there name (facet f inner rest) = number_there name rest

key_there : (name : Text) (inner : Nodes) → IfSome (sort_key name inner) (NamesStatistic inner)
key_there name inner =
    either (NamesStatistic inner) (same_text name (codes "count")) (Some by_count) _ tt
    (either (NamesStatistic inner) (same_text name (codes "index")) (Some by_index) _ tt (mapped (NamesStatistic inner) (statistic_number name inner) by_statistic (number_there name inner)))

-- the sort names what is there
abbrev pub NamesItsStatistic : Nodes → Sort → Type 0
NamesItsStatistic inner sort = NamesStatistic inner sort.by

sort_valid : (inner : Nodes) (d : Data) → IfOk (sort_of inner d) (NamesItsStatistic inner)
sort_valid inner d =
    let P = NamesItsStatistic inner in
    whatever P (named_sort d) _ (λ n. going_on P (NamesStatistic inner) (ok_or (sort_key n.name inner) unknown_sort) _ (there (NamesStatistic inner) (sort_key n.name inner) unknown_sort (key_there n.name inner)) (λ key h. h))

pub sort_in_valid : (inner : Nodes) (ms : Members) → IfOk (sort_in inner ms) (NamesItsStatistic inner)
sort_in_valid inner ms = if_there (NamesItsStatistic inner) (sort_of inner) default_sort (get_member (codes "sort") ms) tt (sort_valid inner)
