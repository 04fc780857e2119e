-- A shard's answer has the shape of its ask: its keys ascend and are the facet's, its buckets have places, its values are few.
use Rattle.std.proofs.Common.{◌≡◌, ℕ, zero, suc, ◌+◌, ◌<◌, List, [], ◌∷◌, ◌++◌, map, length, Bool, true, false, cond, ◌||◌, ◌&&◌, ◌==◌, not, nat_le, Option, None, Some, refl, sym, ◌∙◌, ap, subst, arith, inl, inr}
use Rattle.std.specs.List.{filter, AllByRecursion, range_with_len}
use Rattle.std.specs.List.Sorted.{IsStrictlySortedBy}
use Rattle.std.specs.Ordering.{is_lt, nat_cmp}
use Rattle.std.specs.Cmp.{nat_cmp_is}
use Rattle.std.specs.declared.cmp.Ordering.TheVariants.{Less}
use Rattle.std.proofs.lemmas.Bool.{false≢true, and_from, or_cases, or_left, or_right, le-leb}
use Rattle.std.proofs.lemmas.List.Kept.{IsStrictlySortedBy-filter}
use Rattle.fc_spec.specs.documents.Val.{Text, Val, val_cmp, distinct}
use Rattle.fc_spec.specs.words.Lists.{is_empty, numbers_below}
use Rattle.fc_spec.specs.documents.World.{World, Place, on_shards}
use Rattle.fc_spec.specs.requests.Request.{Stat, Terms, Range, Kind, terms, range, date_range, query, Nodes, no_nodes, statistic, facet, Request, stats_of, DateRange}
use Rattle.fc_spec.specs.requests.Base.{root_domain}
use Rattle.fc_spec.specs.requests.Paths.{Path, at_root, into, domain}
use Rattle.fc_spec.specs.requests.Shape.{no_exclusions, holds_exclusion}
use Rattle.fc_spec.specs.requests.Gaps.{gap_count}
use Rattle.fc_spec.specs.requests.Buckets.{Key, value, missing, gap, before, between, after, whole, is_key_of, is_range_key, is_whole, has_prefix, bucket_places, is_date_range_key}
use Rattle.fc_spec.specs.requests.Statistics.{Stats, stats_over, pair_values}
use Rattle.fc_spec.specs.requests.Ranks.{offered_bound}
use Rattle.fc_spec.specs.replies.Printed.{asked, range_keys, date_range_keys}
use Rattle.fc_spec.specs.replies.Values.{value_places, values_in}
use Rattle.fc_spec.specs.replies.Reading.{offered}
use Rattle.fc_spec.specs.replies.Tops.{values_from}
use Rattle.fc_spec.specs.messages.KeyOrder.{key_cmp}
use Rattle.fc_spec.specs.messages.Message.{Rows, no_rows, row, Want, way_of, first, more}
use Rattle.fc_spec.specs.messages.MessageShape.{is_value, count_fits, key_ascends, is_at_most_bound, buckets_fit, is_complete, rows_fit, insides_fit, top_fits, wants_fit}
use Rattle.fc_spec.specs.messages.Target.{target_of, target_path, target_places, target_nodes}
use Rattle.fc_spec.specs.messages.Answer.{not_empty, listed_keys, answer_keys, partials_of, answer_domain, answer_rows, answer_wants}
use Rattle.fc_spec.specs.messages.TopRounds.{first_number, later_numbers, least_keys, least_rows}
use Rattle.fc_spec.specs.laws.ShapedAnswers.{AnswersAreShaped, LeastsAreShaped}
use Rattle.fc_spec.proofs.words.Members.{Every, every_from_members, every_member, every_filter, every_own_filter, every_append, every_map, filter_member}
use Rattle.fc_spec.proofs.documents.Shards.{is_on}
use Rattle.fc_spec.proofs.requests.FoundValues.{ascending-values_in}
use Rattle.fc_spec.proofs.requests.Locality.{filter_twice}
use Rattle.fc_spec.proofs.words.SortedLists.{sorted-map}
use Rattle.fc_spec.proofs.replies.OfferedValues.{vals_of_some, places_of_offered, offered_ascend, offered_few}
use Rattle.fc_spec.proofs.replies.PrintedKeys.{prefixed_values_in, prefixed_offered, every_asked, every_range_key, every_date_range_key}
use Rattle.fc_spec.proofs.messages.Keys.{same_key_itself}
use Rattle.fc_spec.proofs.messages.OfferedHeld.{listed_values-partials_of, key_values-answer_keys}
use Rattle.fc_spec.proofs.messages.ShapedStatistics.{values_fit-stats_over}
use Rattle.fc_spec.specs.requests.DateGaps.{date_gap_count}

-- ---- the keys ascend

-- each key stands behind the one before it
abbrev Ascend : Option Key → List Key → Type 0
Ascend last [] = Unit {0}
Ascend last (k ∷ ks) = (key_ascends last k ≡ true) × Ascend (Some k) ks

later_ascend : (k : Key) (ks : List Key) → IsStrictlySortedBy key_cmp (k ∷ ks) → Ascend (Some k) ks
unfolding IsStrictlySortedBy
later_ascend k [] up = tt
later_ascend k (l ∷ ls) up = (ap is_lt up.0.0, later_ascend l ls up.1)

all_ascend : (keys : List Key) → IsStrictlySortedBy key_cmp keys → Ascend None keys
all_ascend [] up = tt
all_ascend (k ∷ ks) up = (refl, later_ascend k ks up)

-- the key stands before each of the list
abbrev IsBefore : Key → List Key → Type 0
IsBefore k ls = AllByRecursion (λ l. key_cmp k l ≡ Less) ls

before_both : (k : Key) (ks ls : List Key) → IsBefore k ks → IsBefore k ls → IsBefore k (ks ++ ls)
before_both k [] ls h below = below
before_both k (x ∷ ks) ls h below = (h.0, before_both k ks ls h.1 below)

-- ascending keys behind ascending keys that stand before them
both_up : (ks ls : List Key) → IsStrictlySortedBy key_cmp ks → IsStrictlySortedBy key_cmp ls → AllByRecursion (λ k. IsBefore k ls) ks → IsStrictlySortedBy key_cmp (ks ++ ls)
unfolding IsStrictlySortedBy
both_up [] ls up later below = later
both_up (k ∷ ks) ls up later below = (before_both k ks ls up.0 below.0, both_up ks ls up.1 later below.1)

asked_up : (b : Bool) (k : Key) → IsStrictlySortedBy key_cmp (asked b k)
unfolding IsStrictlySortedBy
asked_up true k = (tt, tt)
asked_up false k = tt

before_asked : (k l : Key) (b : Bool) → key_cmp k l ≡ Less → IsBefore k (asked b l)
before_asked k l true h = (h, tt)
before_asked k l false h = tt

before_some : (q : Key → Bool) (k : Key) (ls : List Key) → IsBefore k ls → IsBefore k (filter q ls)
before_some q k [] h = tt
before_some q k (l ∷ ls) h = go (q l) (before_some q k ls h.1)
  where
    go : (b : Bool) → IsBefore k (filter q ls) → IsBefore k (cond b (l ∷ filter q ls) (filter q ls))
    go true rest = (h.0, rest)
    go false rest = rest

-- keys of one form, each of which stands before those of a list
each_before : {X : Type 0} (key : X → Key) (ls : List Key) → ((x : X) → IsBefore (key x) ls) → (xs : List X) → AllByRecursion (λ k. IsBefore k ls) (map key xs)
each_before key ls h [] = tt
each_before key ls h (x ∷ xs) = (h x, each_before key ls h xs)

beside_up : (x y z : Bool) → IsStrictlySortedBy key_cmp (asked x before ++ (asked y between ++ asked z after))
beside_up x y z =
    both_up (asked x before) (asked y between ++ asked z after) (asked_up x before)
    (both_up (asked y between) (asked z after) (asked_up y between) (asked_up z after) (go y)) (start x)
  where
    go : (b : Bool) → AllByRecursion (λ k. IsBefore k (asked z after)) (asked b between)
    go true = (before_asked between after z refl, tt)
    go false = tt

    start : (b : Bool) → AllByRecursion (λ k. IsBefore k (asked y between ++ asked z after)) (asked b before)
    start true = (before_both before (asked y between) (asked z after) (before_asked before between y refl) (before_asked before after z refl), tt)
    start false = tt

-- numbers ascend
numbers_behind : (n a b : ℕ) → a < b → AllByRecursion (λ j. nat_cmp a j ≡ Less) (range_with_len b n)
numbers_behind zero a b h = tt
numbers_behind (suc n) a b h = (sym (nat_cmp_is a b Less h), numbers_behind n a (b + 1) (omega arith))

numbers_up : (n a : ℕ) → IsStrictlySortedBy nat_cmp (range_with_len a n)
unfolding IsStrictlySortedBy
numbers_up zero a = tt
numbers_up (suc n) a = (numbers_behind n a (a + 1) (omega arith), numbers_up n (a + 1))

-- gaps stand before them
gap_before : (b m a : Bool) (i : ℕ) → IsBefore (gap i) (asked b before ++ (asked m between ++ asked a after))
gap_before b m a i =
    before_both (gap i) (asked b before) _ (before_asked (gap i) before b refl)
    (before_both (gap i) (asked m between) _ (before_asked (gap i) between m refl) (before_asked (gap i) after a refl))

-- so many gaps, and what is asked for beside them
gaps_up : (n : ℕ) (b m a : Bool) → IsStrictlySortedBy key_cmp (map gap (numbers_below n) ++ (asked b before ++ (asked m between ++ asked a after)))
gaps_up n b m a =
    let gaps = numbers_below n in
    let rest = asked b before ++ (asked m between ++ asked a after) in
    both_up (map gap gaps) rest (sorted-map gap key_cmp gaps (numbers_up n 0)) (beside_up b m a) (each_before gap rest (gap_before b m a) gaps)

-- what holds of some keys and of those of them that are not empty holds of those that are listed
of_listed : (P : List Key → Type 0) (kind : Kind) (inner : Nodes) (Y : List Place) (keys : List Key) → P keys → P (not_empty kind Y keys) → P (listed_keys kind inner Y keys)
of_listed P kind inner Y keys all some = go (no_exclusions inner)
  where
    go : (none : Bool) → P (cond (not none) keys (not_empty kind Y keys))
    go true = some
    go false = all

-- the keys of an answer ascend
keys_up : (kind : Kind) (inner : Nodes) (Y : List Place) (i : ℕ) → IsStrictlySortedBy key_cmp (answer_keys kind inner Y i)
unfolding IsStrictlySortedBy
keys_up (terms t) inner Y i =
    let has_places : Key → Bool = λ k. not (is_empty (bucket_places (terms t) k Y)) in
    let lacking = asked t.missing missing in
    both_up (map value (offered t inner Y i)) (listed_keys (terms t) inner Y lacking) (sorted-map value key_cmp (offered t inner Y i) (offered_ascend t inner Y i))
    (of_listed (IsStrictlySortedBy key_cmp) (terms t) inner Y lacking (asked_up t.missing missing) (IsStrictlySortedBy-filter key_cmp has_places lacking (asked_up t.missing missing)))
    (each_before value (listed_keys (terms t) inner Y lacking)
    (λ v. let below = before_asked (value v) missing t.missing refl in of_listed (IsBefore (value v)) (terms t) inner Y lacking below (before_some has_places (value v) lacking below)) (offered t inner Y i))
keys_up (range g) inner Y i =
    of_listed (IsStrictlySortedBy key_cmp) (range g) inner Y (range_keys g) (gaps_up (gap_count g) g.before g.between g.after) (IsStrictlySortedBy-filter key_cmp (λ k. not (is_empty (bucket_places (range g) k Y))) (range_keys g) (gaps_up (gap_count g) g.before g.between g.after))
keys_up (date_range g) inner Y i =
    of_listed (IsStrictlySortedBy key_cmp) (date_range g) inner Y (date_range_keys g) (gaps_up (date_gap_count g) g.before g.between g.after) (IsStrictlySortedBy-filter key_cmp (λ k. not (is_empty (bucket_places (date_range g) k Y))) (date_range_keys g) (gaps_up (date_gap_count g) g.before g.between g.after))
keys_up (query q) inner Y i = (tt, tt)

-- ---- they are keys of the facet

own_keys : (kind : Kind) (inner : Nodes) (Y : List Place) (i : ℕ) → Every (is_key_of kind) (answer_keys kind inner Y i)
own_keys (terms t) inner Y i =
    every_append (is_key_of (terms t)) (map value (offered t inner Y i)) _ (every_map (is_key_of (terms t)) value (offered t inner Y i) (prefixed_offered t inner Y i))
    (let own = every_asked (is_key_of (terms t)) t.missing missing refl in
    of_listed (Every (is_key_of (terms t))) (terms t) inner Y (asked t.missing missing) own (every_filter (is_key_of (terms t)) (λ k. not (is_empty (bucket_places (terms t) k Y))) (asked t.missing missing) own))
own_keys (range g) inner Y i =
    of_listed (Every (is_range_key g)) (range g) inner Y (range_keys g) (every_range_key g) (every_filter (is_range_key g) (λ k. not (is_empty (bucket_places (range g) k Y))) (range_keys g) (every_range_key g))
own_keys (date_range g) inner Y i =
    of_listed (Every (is_date_range_key g)) (date_range g) inner Y (date_range_keys g) (every_date_range_key g) (every_filter (is_date_range_key g) (λ k. not (is_empty (bucket_places (date_range g) k Y))) (date_range_keys g) (every_date_range_key g))
own_keys (query q) inner Y i = (refl, tt)

-- ---- their buckets have places, where they need any

-- the key's bucket has a place, or needs none: it is the whole, or no value's in a facet that holds an exclusion
abbrev has_place : Kind → Nodes → List Place → Key → Bool
has_place kind inner Y k = is_whole k || (holds_exclusion inner && not (is_value k)) || not (is_empty (bucket_places kind k Y))

with_a_place : (kind : Kind) (inner : Nodes) (Y : List Place) (k : Key) → not (is_empty (bucket_places kind k Y)) ≡ true → has_place kind inner Y k ≡ true
with_a_place kind inner Y k h = or_right (is_whole k || (holds_exclusion inner && not (is_value k))) _ h

-- no value is among the keys
abbrev AreOthers : List Key → Type 0
AreOthers keys = Every (λ k. not (is_value k)) keys

asked_others : (b : Bool) (k : Key) → not (is_value k) ≡ true → AreOthers (asked b k)
asked_others true k h = (h, tt)
asked_others false k h = tt

range_others : (g : Range) → AreOthers (range_keys g)
range_others g =
    every_append (λ k. not (is_value k)) (map gap (numbers_below (gap_count g))) _ (every_map (λ k. not (is_value k)) gap (numbers_below (gap_count g)) (every_from_members (λ i. true) (numbers_below (gap_count g)) (λ i m. refl)))
    (every_append (λ k. not (is_value k)) (asked g.before before) _ (asked_others g.before before refl)
    (every_append (λ k. not (is_value k)) (asked g.between between) _ (asked_others g.between between refl) (asked_others g.after after refl)))

date_range_others : (g : DateRange) → AreOthers (date_range_keys g)
date_range_others g =
    every_append (λ k. not (is_value k)) (map gap (numbers_below (date_gap_count g))) _ (every_map (λ k. not (is_value k)) gap (numbers_below (date_gap_count g)) (every_from_members (λ i. true) (numbers_below (date_gap_count g)) (λ i m. refl)))
    (every_append (λ k. not (is_value k)) (asked g.before before) _ (asked_others g.before before refl)
    (every_append (λ k. not (is_value k)) (asked g.between between) _ (asked_others g.between between refl) (asked_others g.after after refl)))

with_places_listed : (kind : Kind) (inner : Nodes) (Y : List Place) (keys : List Key) → AreOthers keys → Every (has_place kind inner Y) (listed_keys kind inner Y keys)
with_places_listed kind inner Y keys others = go (no_exclusions inner) refl
  where
    go : (none : Bool) → no_exclusions inner ≡ none → Every (has_place kind inner Y) (cond (not none) keys (not_empty kind Y keys))
    go true e = every_from_members (has_place kind inner Y) (not_empty kind Y keys) (λ k m. with_a_place kind inner Y k (filter_member (λ l. not (is_empty (bucket_places kind l Y))) keys k m).1)
    go false e =
        every_from_members (has_place kind inner Y) keys (λ k m. or_left (is_whole k || (holds_exclusion inner && not (is_value k))) _
        (or_right (is_whole k) _ (and_from (holds_exclusion inner) (not (is_value k)) (ap not e) (every_member (λ k. not (is_value k)) keys k others m))))

with_places : (kind : Kind) (inner : Nodes) (Y : List Place) (i : ℕ) → on_shards (i ∷ []) Y ≡ Y → Every (has_place kind inner Y) (answer_keys kind inner Y i)
with_places (terms t) inner Y i own =
    every_append (has_place (terms t) inner Y) (map value (offered t inner Y i)) _
    (every_map (has_place (terms t) inner Y) value (offered t inner Y i)
    (every_from_members (λ v. has_place (terms t) inner Y (value v)) (offered t inner Y i) (λ v m. with_a_place (terms t) inner Y (value v)
    (every_member (λ v. not (is_empty (value_places t v Y))) (offered t inner Y i) v (subst (λ Z. Every (λ v. not (is_empty (value_places t v Z))) (offered t inner Y i)) own (places_of_offered t inner Y i)) m))))
    (with_places_listed (terms t) inner Y (asked t.missing missing) (asked_others t.missing missing refl))
with_places (range g) inner Y i own = with_places_listed (range g) inner Y (range_keys g) (range_others g)
with_places (date_range g) inner Y i own = with_places_listed (date_range g) inner Y (date_range_keys g) (date_range_others g)
with_places (query q) inner Y i own = (refl, tt)

-- a list that is not empty has at least one member
at_least_one : (n : ℕ) → not (n == 0) ≡ true → nat_le 1 n ≡ true
at_least_one zero h = absurd (false≢true h)
at_least_one (suc n) h = le-leb 1 (suc n) (omega arith)

counts_fit : (kind : Kind) (inner : Nodes) (Y : List Place) (k : Key) → has_place kind inner Y k ≡ true → count_fits (holds_exclusion inner) k (stats_over (stats_of inner) (bucket_places kind k Y)) ≡ true
counts_fit kind inner Y k h =
    let needs_none = is_whole k || (holds_exclusion inner && not (is_value k)) in
    elim (or_cases needs_none (not (is_empty (bucket_places kind k Y))) h) [
      | inl e ↦ or_left needs_none _ e
      | inr e ↦ or_right needs_none _ (at_least_one (length (bucket_places kind k Y)) e)
    ]

-- ---- the shape

-- one bucket for each of some keys
listed_fit : (kind : Kind) (inner : Nodes) (Y : List Place) (rows : Key → Rows) (keys : List Key) (last : Option Key) → Ascend last keys → Every (is_key_of kind) keys → Every (has_place kind inner Y) keys
    → buckets_fit kind inner (partials_of (λ k. stats_over (stats_of inner) (bucket_places kind k Y)) rows keys) last ≡ true
listed_fit kind inner Y rows [] last up own placed = refl
listed_fit kind inner Y rows (k ∷ ks) last up own placed =
    and_from _ _ (and_from _ _ (and_from _ _ (and_from _ _ up.0 own.0) (counts_fit kind inner Y k placed.0)) (values_fit-stats_over (stats_of inner) (bucket_places kind k Y)))
    (listed_fit kind inner Y rows ks (Some k) up.1 own.1 placed.1)

-- as many as there have to be
module _ (most : Terms → Option ℕ) (enough : (t : Terms) (inner : Nodes) (Y : List Place) (i : ℕ) → is_at_most_bound (most t) (length (offered t inner Y i)) ≡ true) where
  complete : (kind : Kind) (inner : Nodes) (Y : List Place) (i : ℕ) (stats : Key → Stats) (rows : Key → Rows) → is_complete most kind (partials_of stats rows (answer_keys kind inner Y i)) ≡ true
  complete (terms t) inner Y i stats rows =
      ap (λ vs. is_at_most_bound (most t) (length vs)) (listed_values-partials_of stats rows (answer_keys (terms t) inner Y i) ∙ key_values-answer_keys t inner Y i) ∙ enough t inner Y i
  complete (range g) inner Y i stats rows = refl
  complete (date_range g) inner Y i stats rows = refl
  complete (query q) inner Y i stats rows = refl

  -- what is nested in each
  all_insides_fit : (stats : Key → Stats) (rows : Key → Rows) (inner : Nodes) → ((k : Key) → rows_fit most (rows k) inner ≡ true) → (keys : List Key) → insides_fit most (partials_of stats rows keys) inner ≡ true
  all_insides_fit stats rows inner h [] = refl
  all_insides_fit stats rows inner h (k ∷ ks) = and_from _ _ (h k) (all_insides_fit stats rows inner h ks)

  -- statistics have no row
  past_statistic : (name : Text) (s : Stat) (nodes : Nodes) (rows : Rows) → rows_fit most rows (statistic name s nodes) ≡ rows_fit most rows nodes
  past_statistic name s nodes no_rows = refl
  past_statistic name s nodes (row ps rest) = refl

  answers_fit : (r : Request) (W : World) (i : ℕ) (path : Path) (nodes : Nodes) (X : List Place) → rows_fit most (answer_rows r W i path nodes X) nodes ≡ true
  answers_fit r W i path no_nodes X = refl
  answers_fit r W i path (statistic name s rest) X = past_statistic name s rest (answer_rows r W i path rest X) ∙ answers_fit r W i path rest X
  answers_fit r W i path (facet f inner rest) X =
      let Y = answer_domain r W i path f X in
      let own : on_shards (i ∷ []) Y ≡ Y = filter_twice (is_on (i ∷ [])) (domain r W path f.change X) in
      let keys = answer_keys f.kind inner Y i in
      let stats : Key → Stats = λ k. stats_over (stats_of inner) (bucket_places f.kind k Y) in
      let rows : Key → Rows = λ k. answer_rows r W i (into path f k) inner (bucket_places f.kind k Y) in
      and_from _ _
      (and_from _ _
      (and_from _ _ (complete f.kind inner Y i stats rows) (listed_fit f.kind inner Y rows keys None (all_ascend keys (keys_up f.kind inner Y i)) (own_keys f.kind inner Y i) (with_places f.kind inner Y i own)))
      (all_insides_fit stats rows inner (λ k. answers_fit r W i (into path f k) inner (bucket_places f.kind k Y)) keys))
      (answers_fit r W i path rest X)

  -- a top bucket
  top_answers_fit : (r : Request) (W : World) (i : ℕ) (key : Key) (path : Path) (nodes : Nodes) (X : List Place) → top_fits most key nodes key (stats_over (stats_of nodes) X) (answer_rows r W i path nodes X) ≡ true
  top_answers_fit r W i key path nodes X = and_from _ _ (and_from _ _ (same_key_itself key) (values_fit-stats_over (stats_of nodes) X)) (answers_fit r W i path nodes X)

  wanted_fit : (r : Request) (W : World) (i : ℕ) (wants : List Want) → wants_fit most r.nodes wants (answer_wants r W i wants) ≡ true
  wanted_fit r W i [] = refl
  wanted_fit r W i (w ∷ ws) =
      let t = target_of r.nodes (way_of w) in
      and_from _ _ (top_answers_fit r W i w.key (target_path t) (target_nodes t) (on_shards (i ∷ []) (target_places r W t))) (wanted_fit r W i ws)

pub answers_are_shaped : AnswersAreShaped
answers_are_shaped r W i first = top_answers_fit offered_bound offered_few r W i whole at_root r.nodes (on_shards (i ∷ []) (target_places r W (target_of r.nodes [])))
answers_are_shaped r W i (more wants) = wanted_fit offered_bound offered_few r W i wants

-- ---- values from a count on

-- the values that a shard lists from a count on are some of its own
from_is : (t : Terms) (n : ℕ) (Y : List Place) (i : ℕ) → values_from t n Y i ≡ filter (λ v. nat_le n (length (value_places t v (on_shards (i ∷ []) Y)))) (values_in t (on_shards (i ∷ []) Y))
from_is t n Y i = vals_of_some (λ v. stats_over [] (value_places t v (on_shards (i ∷ []) Y))) (λ e. nat_le n e.stats.count) (values_in t (on_shards (i ∷ []) Y))

every_from : (p : Val → Bool) (t : Terms) (n : ℕ) (Y : List Place) (i : ℕ) → Every p (values_in t (on_shards (i ∷ []) Y)) → Every p (values_from t n Y i)
every_from p t n Y i h = subst (Every p) (sym (from_is t n Y i)) (every_filter p (λ v. nat_le n (length (value_places t v (on_shards (i ∷ []) Y)))) (values_in t (on_shards (i ∷ []) Y)) h)

least_up : (kind : Kind) (inner : Nodes) (n : ℕ) (Y : List Place) (i : ℕ) → IsStrictlySortedBy key_cmp (least_keys kind inner n Y i)
least_up (terms t) inner n Y i =
    let has_places : Key → Bool = λ k. not (is_empty (bucket_places (terms t) k Y)) in
    let lacking = asked t.missing missing in
    both_up (map value (values_from t n Y i)) (listed_keys (terms t) inner Y lacking)
    (sorted-map value key_cmp (values_from t n Y i) (subst (IsStrictlySortedBy val_cmp) (sym (from_is t n Y i)) (IsStrictlySortedBy-filter val_cmp (λ v. nat_le n (length (value_places t v (on_shards (i ∷ []) Y)))) (values_in t (on_shards (i ∷ []) Y)) (ascending-values_in t (on_shards (i ∷ []) Y)))))
    (of_listed (IsStrictlySortedBy key_cmp) (terms t) inner Y lacking (asked_up t.missing missing) (IsStrictlySortedBy-filter key_cmp has_places lacking (asked_up t.missing missing)))
    (each_before value (listed_keys (terms t) inner Y lacking)
    (λ v. let below = before_asked (value v) missing t.missing refl in of_listed (IsBefore (value v)) (terms t) inner Y lacking below (before_some has_places (value v) lacking below)) (values_from t n Y i))
least_up (range g) inner n Y i = keys_up (range g) inner Y i
least_up (date_range g) inner n Y i = keys_up (date_range g) inner Y i
least_up (query q) inner n Y i = keys_up (query q) inner Y i

least_own : (kind : Kind) (inner : Nodes) (n : ℕ) (Y : List Place) (i : ℕ) → Every (is_key_of kind) (least_keys kind inner n Y i)
least_own (terms t) inner n Y i =
    every_append (is_key_of (terms t)) (map value (values_from t n Y i)) _ (every_map (is_key_of (terms t)) value (values_from t n Y i) (every_from (has_prefix t.prefix) t n Y i (prefixed_values_in t (on_shards (i ∷ []) Y))))
    (let own = every_asked (is_key_of (terms t)) t.missing missing refl in
    of_listed (Every (is_key_of (terms t))) (terms t) inner Y (asked t.missing missing) own (every_filter (is_key_of (terms t)) (λ k. not (is_empty (bucket_places (terms t) k Y))) (asked t.missing missing) own))
least_own (range g) inner n Y i = own_keys (range g) inner Y i
least_own (date_range g) inner n Y i = own_keys (date_range g) inner Y i
least_own (query q) inner n Y i = own_keys (query q) inner Y i

least_placed : (kind : Kind) (inner : Nodes) (n : ℕ) (Y : List Place) (i : ℕ) → on_shards (i ∷ []) Y ≡ Y → Every (has_place kind inner Y) (least_keys kind inner n Y i)
least_placed (terms t) inner n Y i own =
    let here = on_shards (i ∷ []) Y in
    every_append (has_place (terms t) inner Y) (map value (values_from t n Y i)) _
    (every_map (has_place (terms t) inner Y) value (values_from t n Y i)
    (every_from_members (λ v. has_place (terms t) inner Y (value v)) (values_from t n Y i) (λ v m. with_a_place (terms t) inner Y (value v)
    (every_member (λ v. not (is_empty (value_places t v Y))) (values_from t n Y i) v
    (subst (λ Z. Every (λ v. not (is_empty (value_places t v Z))) (values_from t n Y i)) own (every_from (λ v. not (is_empty (value_places t v here))) t n Y i (every_own_filter (λ v. not (is_empty (value_places t v here))) (distinct (pair_values t.field here))))) m))))
    (with_places_listed (terms t) inner Y (asked t.missing missing) (asked_others t.missing missing refl))
least_placed (range g) inner n Y i own = with_places (range g) inner Y i own
least_placed (date_range g) inner n Y i own = with_places (date_range g) inner Y i own
least_placed (query q) inner n Y i own = with_places (query q) inner Y i own

least_complete : (kind : Kind) (inner : Nodes) (n : ℕ) (Y : List Place) (i : ℕ) (stats : Key → Stats) (rows : Key → Rows) → is_complete (λ (t : Terms). None) kind (partials_of stats rows (least_keys kind inner n Y i)) ≡ true
least_complete (terms t) inner n Y i stats rows = refl
least_complete (range g) inner n Y i stats rows = refl
least_complete (date_range g) inner n Y i stats rows = refl
least_complete (query q) inner n Y i stats rows = refl

leasts_fit : (r : Request) (W : World) (i : ℕ) (nodes : Nodes) (ns : List ℕ) (X : List Place) → rows_fit (λ (t : Terms). None) (least_rows r W i nodes ns X) nodes ≡ true
leasts_fit r W i no_nodes ns X = refl
leasts_fit r W i (statistic name s rest) ns X = past_statistic (λ (t : Terms). None) (λ t inner Y i. refl) name s rest (least_rows r W i rest ns X) ∙ leasts_fit r W i rest ns X
leasts_fit r W i (facet f inner rest) ns X =
    let Y = answer_domain r W i at_root f X in
    let own : on_shards (i ∷ []) Y ≡ Y = filter_twice (is_on (i ∷ [])) (domain r W at_root f.change X) in
    let n = first_number ns in
    let keys = least_keys f.kind inner n Y i in
    let stats : Key → Stats = λ k. stats_over (stats_of inner) (bucket_places f.kind k Y) in
    let rows : Key → Rows = λ k. answer_rows r W i (into at_root f k) inner (bucket_places f.kind k Y) in
    and_from _ _
    (and_from _ _
    (and_from _ _ (least_complete f.kind inner n Y i stats rows) (listed_fit f.kind inner Y rows keys None (all_ascend keys (least_up f.kind inner n Y i)) (least_own f.kind inner n Y i) (least_placed f.kind inner n Y i own)))
    (all_insides_fit (λ (t : Terms). None) (λ t inner Y i. refl) stats rows inner (λ k. answers_fit (λ (t : Terms). None) (λ t inner Y i. refl) r W i (into at_root f k) inner (bucket_places f.kind k Y)) keys))
    (leasts_fit r W i rest (later_numbers ns) X)

pub leasts_are_shaped : LeastsAreShaped
leasts_are_shaped r W i ns =
    let X = on_shards (i ∷ []) (root_domain r W) in
    and_from _ _ (and_from _ _ (same_key_itself whole) (values_fit-stats_over (stats_of r.nodes) X)) (leasts_fit r W i r.nodes ns X)
