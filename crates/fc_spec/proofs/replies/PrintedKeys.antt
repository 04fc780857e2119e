-- The keys that a facet prints are keys of the facet.
use Rattle.std.proofs.Common.{◌≡◌, ℕ, zero, suc, ◌+◌, ◌≤◌, List, [], ◌∷◌, map, Bool, true, false, not, ◌==◌, nat_lt, nat_le, Option, refl, sym, ◌∙◌, arith}
use Rattle.std.specs.List.{filter, flat_map, range_with_len}
use Rattle.std.specs.Ordering.{match_ordering}
use Rattle.std.specs.declared.cmp.Ordering.{Ordering}
use Rattle.std.specs.declared.cmp.Ordering.TheVariants.{Less, Equal, Greater}
use Rattle.std.proofs.lemmas.Bool.{and_parts, lt-ltb}
use Rattle.fc_spec.specs.documents.Val.{Val, val_cmp, has_val, insert_val, distinct}
use Rattle.fc_spec.specs.documents.Document.{values_of}
use Rattle.fc_spec.specs.words.Lists.{numbers_below, is_empty}
use Rattle.fc_spec.specs.documents.World.{World, Place, on_shards}
use Rattle.fc_spec.specs.requests.Request.{Stat, Terms, Range, Kind, terms, range, date_range, query, Sort, Nodes, Request, DateRange}
use Rattle.fc_spec.specs.requests.Gaps.{gap_count}
use Rattle.fc_spec.specs.requests.Buckets.{Key, value, missing, gap, before, between, after, has_prefix, is_key_of, is_range_key, is_date_range_key}
use Rattle.fc_spec.specs.requests.Statistics.{pair_values, stats_over}
use Rattle.fc_spec.specs.requests.Ranks.{Entry, rank, page}
use Rattle.fc_spec.specs.replies.Printed.{asked, range_keys, terms_keys, date_range_keys}
use Rattle.fc_spec.specs.replies.Values.{value_places, values_in, entries_in}
use Rattle.fc_spec.specs.replies.Exact.{exact_keys}
use Rattle.fc_spec.specs.replies.Reading.{Reading, PathDomain, offered, over_places}
use Rattle.fc_spec.specs.replies.Chosen.{candidates, offering, entry_on, chosen, known, chosen_entries}
use Rattle.fc_spec.specs.replies.Distributed.{printed_keys}
use Rattle.fc_spec.proofs.words.Members.{Every, every_from_members, every_filter, every_append, every_flat_map, every_map, filter_member, passing_member}
use Rattle.fc_spec.proofs.replies.OfferedValues.{every_offered}
use Rattle.fc_spec.proofs.requests.FoundValues.{holds_value, not-is_empty-filter}
use Rattle.fc_spec.specs.requests.DateGaps.{date_gap_count}

every_insert_val : (p : Val → Bool) (v : Val) (ws : List Val) → p v ≡ true → Every p ws → Every p (insert_val v ws)
every_insert_val p v [] h e = (h, tt)
every_insert_val p v (w ∷ ws) h e = go (val_cmp v w) (every_insert_val p v ws h e.1)
  where
    go : (o : Ordering) → Every p (insert_val v ws) → Every p (match_ordering o (v ∷ w ∷ ws) (w ∷ ws) (w ∷ insert_val v ws))
    go Less ih = (h, e)
    go Equal ih = e
    go Greater ih = (e.0, ih)

every_distinct : (p : Val → Bool) (vs : List Val) → Every p vs → Every p (distinct vs)
every_distinct p [] e = tt
every_distinct p (v ∷ vs) e = every_insert_val p v (distinct vs) e.0 (every_distinct p vs e.1)

-- the values found begin with the prefix
pub prefixed_values_in : (t : Terms) (Y : List Place) → Every (has_prefix t.prefix) (values_in t Y)
prefixed_values_in t Y = every_from_members (has_prefix t.prefix) (values_in t Y) (λ v m.
    let found = (filter_member (λ w. not (is_empty (value_places t w Y))) (distinct (pair_values t.field Y)) v m).1 in
    let place = passing_member (holds_value t v) Y (sym (not-is_empty-filter (holds_value t v) Y) ∙ found) in
    (and_parts (has_val v (values_of (place.0).document t.field)) (has_prefix t.prefix v) place.2).1)

-- and so do those offered and chosen
pub prefixed_offered : (t : Terms) (inner : Nodes) (Y : List Place) (i : ℕ) → Every (has_prefix t.prefix) (offered t inner Y i)
prefixed_offered t inner Y i = every_offered (has_prefix t.prefix) t inner Y i (prefixed_values_in t (on_shards (i ∷ []) Y))

-- in any reading, where the shards offer such values
module _ {B D : Type 0} (R : Reading B D) (t : Terms) (inner : Nodes) (H : List ℕ) (Y : D) (offers : (i : ℕ) → Every (has_prefix t.prefix) (R.offered_by t inner Y i)) where
  abbrev made : Val → Entry
  made v = entry_on R t inner H Y (offering R t inner H Y v) v

  pub prefixed_chosen : Every (has_prefix t.prefix) (chosen R t inner H Y)
  prefixed_chosen =
      every_map (has_prefix t.prefix) (λ e. e.val) _
      (every_filter (λ e. has_prefix t.prefix e.val) _ (map made (candidates R t inner H Y))
      (every_map (λ e. has_prefix t.prefix e.val) made (candidates R t inner H Y)
      (every_distinct (has_prefix t.prefix) (flat_map (λ i. R.offered_by t inner Y i) H) (every_flat_map (has_prefix t.prefix) (λ i. R.offered_by t inner Y i) H offers))))

  prefixed_chosen_entries : Every (λ e. has_prefix t.prefix e.val) (chosen_entries R t inner H Y)
  prefixed_chosen_entries = every_map (λ e. has_prefix t.prefix e.val) (λ v. entry_on R t inner H Y (known R t inner H Y v) v) (chosen R t inner H Y) prefixed_chosen

-- a page has entries of the list alone
pub every_page : (p : Entry → Bool) (s : Sort) (offset : ℕ) (limit : Option ℕ) (V : List Entry) → Every p V → Every p (page s offset limit V)
every_page p s offset limit V e = every_flat_map p (λ k. filter (λ w. rank s V w == k) V) _ (λ k. every_filter p (λ w. rank s V w == k) V e)

pub every_asked : (p : Key → Bool) (b : Bool) (key : Key) → p key ≡ b → Every p (asked b key)
every_asked p true key h = (h, tt)
every_asked p false key h = tt

every_below : (n a m : ℕ) → a + n ≤ m → Every (λ i. nat_lt i m) (range_with_len a n)
every_below zero a m h = tt
every_below (suc n) a m h = (lt-ltb a m (omega arith), every_below n (a + 1) m (omega arith))

pub every_range_key : (g : Range) → Every (is_range_key g) (range_keys g)
every_range_key g =
    every_append (is_range_key g) (map gap (numbers_below (gap_count g))) _ (every_map (is_range_key g) gap (numbers_below (gap_count g)) (every_below (gap_count g) 0 (gap_count g) (omega arith)))
    (every_append (is_range_key g) (asked g.before before) _ (every_asked (is_range_key g) g.before before refl)
    (every_append (is_range_key g) (asked g.between between) _ (every_asked (is_range_key g) g.between between refl) (every_asked (is_range_key g) g.after after refl)))

pub every_date_range_key : (g : DateRange) → Every (is_date_range_key g) (date_range_keys g)
every_date_range_key g =
    every_append (is_date_range_key g) (map gap (numbers_below (date_gap_count g))) _ (every_map (is_date_range_key g) gap (numbers_below (date_gap_count g)) (every_below (date_gap_count g) 0 (date_gap_count g) (omega arith)))
    (every_append (is_date_range_key g) (asked g.before before) _ (every_asked (is_date_range_key g) g.before before refl)
    (every_append (is_date_range_key g) (asked g.between between) _ (every_asked (is_date_range_key g) g.between between refl) (every_asked (is_date_range_key g) g.after after refl)))

-- what shards offer of a terms facet begins with its prefix
abbrev pub OfferPrefixed : {B D : Type 0} → Reading B D → Kind → Nodes → D → Type 0
OfferPrefixed R (terms t) inner Y = (i : ℕ) → Every (has_prefix t.prefix) (R.offered_by t inner Y i)
OfferPrefixed R _ inner Y = Unit {0}

-- what is printed of entries whose values begin with the prefix
every_terms_key : (t : Terms) (entries : List Entry) → Every (λ e. has_prefix t.prefix e.val) entries → Every (is_key_of (terms t)) (terms_keys t entries)
every_terms_key t entries prefixed =
    every_append (is_key_of (terms t)) (map (λ e. value e.val) (page t.sort t.offset t.limit (filter (λ e. nat_le t.mincount e.stats.count) entries))) (asked t.missing missing)
    (every_map (is_key_of (terms t)) (λ e. value e.val) (page t.sort t.offset t.limit (filter (λ e. nat_le t.mincount e.stats.count) entries))
    (every_page (λ e. has_prefix t.prefix e.val) t.sort t.offset t.limit (filter (λ e. nat_le t.mincount e.stats.count) entries)
    (every_filter (λ e. has_prefix t.prefix e.val) (λ e. nat_le t.mincount e.stats.count) entries prefixed)))
    (every_asked (is_key_of (terms t)) t.missing missing refl)

-- the keys that a single index prints are the facet's
pub every_exact_key : (kind : Kind) (ss : List Stat) (Y : List Place) → Every (is_key_of kind) (exact_keys kind ss Y)
every_exact_key (terms t) ss Y = every_terms_key t (entries_in t ss Y) (every_map (λ e. has_prefix t.prefix e.val) (λ v. record { val = v; stats = stats_over ss (value_places t v Y) }) (values_in t Y) (prefixed_values_in t Y))
every_exact_key (range g) ss Y = every_range_key g
every_exact_key (date_range g) ss Y = every_date_range_key g
every_exact_key (query q) ss Y = (refl, tt)

-- the printed keys are the facet's
pub every_printed_key_of : {B D : Type 0} (R : Reading B D) (kind : Kind) (inner : Nodes) (H : List ℕ) (Y : D) → OfferPrefixed R kind inner Y → Every (is_key_of kind) (printed_keys R kind inner H Y)
every_printed_key_of R (terms t) inner H Y offers = every_terms_key t (chosen_entries R t inner H Y) (prefixed_chosen_entries R t inner H Y offers)
every_printed_key_of R (range g) inner H Y offers = every_range_key g
every_printed_key_of R (date_range g) inner H Y offers = every_date_range_key g
every_printed_key_of R (query q) inner H Y offers = (refl, tt)

prefixed_over_places : (r : Request) (W : World) (kind : Kind) (inner : Nodes) (Y : PathDomain) → OfferPrefixed (over_places r W) kind inner Y
prefixed_over_places r W (terms t) inner Y = prefixed_offered t inner Y.places
prefixed_over_places r W (range g) inner Y = tt
prefixed_over_places r W (date_range g) inner Y = tt
prefixed_over_places r W (query q) inner Y = tt

pub every_printed_key : (r : Request) (W : World) (kind : Kind) (inner : Nodes) (H : List ℕ) (Y : PathDomain) → Every (is_key_of kind) (printed_keys (over_places r W) kind inner H Y)
every_printed_key r W kind inner H Y = every_printed_key_of (over_places r W) kind inner H Y (prefixed_over_places r W kind inner Y)
