-- The keys of a facet's buckets that have places: they ascend, and which they are.
use Rattle.std.proofs.Common.{◌≡◌, ℕ, zero, suc, ◌+◌, ◌<◌, ◌≤◌, List, [], ◌∷◌, ◌++◌, map, Bool, true, false, nat_lt, ◌&&◌, ◌||◌, not, refl, sym, ◌∙◌, ap, inl, inr, arith}
use Rattle.std.specs.List.{list_any, AllByRecursion, range_with_len}
use Rattle.std.specs.List.Sorted.{IsStrictlySortedBy}
use Rattle.std.specs.Ordering.{nat_cmp}
use Rattle.std.specs.Cmp.{nat_cmp_is}
use Rattle.std.specs.declared.cmp.Ordering.TheVariants.{Less}
use Rattle.std.proofs.lemmas.Bool.{false≢true, and_from, and_parts, or_left, or_right, ltb-true}
use Rattle.std.proofs.lemmas.List.Folds.{list_any-append}
use Rattle.std.proofs.lemmas.List.Kept.{IsStrictlySortedBy-filter}
use Rattle.fc_spec.specs.documents.Val.{Val, same_val, has_val, distinct}
use Rattle.fc_spec.specs.documents.Document.{values_of}
use Rattle.fc_spec.specs.documents.World.{Place}
use Rattle.fc_spec.specs.words.Lists.{is_empty, numbers_below}
use Rattle.fc_spec.specs.requests.Request.{Terms, Range, DateRange, Kind, terms, range, date_range}
use Rattle.fc_spec.specs.requests.Gaps.{gap_count}
use Rattle.fc_spec.specs.requests.DateGaps.{date_gap_count}
use Rattle.fc_spec.specs.requests.Buckets.{Key, value, missing, gap, before, between, after, whole, is_terms_key, is_key_of, has_prefix, bucket_places}
use Rattle.fc_spec.specs.requests.Statistics.{pair_values}
use Rattle.fc_spec.specs.replies.Printed.{asked, range_keys, date_range_keys}
use Rattle.fc_spec.specs.replies.Values.{value_places, values_in}
use Rattle.fc_spec.specs.messages.KeyOrder.{key_cmp, same_key}
use Rattle.fc_spec.specs.messages.Answer.{not_empty}
use Rattle.fc_spec.proofs.words.Members.{Member, Every, every_from_members, all_from_members, each_member, every_member, every_append, every_map, passing_member, any_by_member, filter_member, member_of_filter, same_tests}
use Rattle.fc_spec.proofs.words.AlikeLists.{member_append, member_map}
use Rattle.fc_spec.proofs.words.MappedLists.{list_any-map}
use Rattle.fc_spec.proofs.words.SortedLists.{sorted-map}
use Rattle.fc_spec.proofs.requests.FoundValues.{holds_value, has_val-values_in, not-is_empty-filter, ascending-values_in}
use Rattle.fc_spec.proofs.replies.DistinctKeys.{asked_is}
use Rattle.fc_spec.proofs.replies.PrintedKeys.{every_asked, every_range_key, every_date_range_key}
use Rattle.fc_spec.proofs.messages.Keys.{same_key_exact, same_key_itself}

-- ---- they ascend

-- ascending keys behind ascending keys, each of which stands before them
both_up : (ks ls : List Key) → IsStrictlySortedBy key_cmp ks → IsStrictlySortedBy key_cmp ls → ((k l : Key) → Member k ks → Member l ls → key_cmp k l ≡ Less) → IsStrictlySortedBy key_cmp (ks ++ ls)
unfolding IsStrictlySortedBy
both_up [] ls up later below = later
both_up (k ∷ ks) ls up later below = (
  all_from_members (λ l. key_cmp k l ≡ Less) (ks ++ ls) (λ l m. elim (member_append ks ls l m) [ inl a ↦ each_member (λ l. key_cmp k l ≡ Less) ks l up.0 a | inr b ↦ below k l (inl refl) b ]),
  both_up ks ls up.1 later (λ j l m n. below j l (inr m) n),
)

asked_up : (b : Bool) (k : Key) → IsStrictlySortedBy key_cmp (asked b k)
unfolding IsStrictlySortedBy
asked_up true k = (tt, tt)
asked_up false k = tt

numbers_behind : (n a b : ℕ) → a < b → AllByRecursion (λ j. nat_cmp a j ≡ Less) (range_with_len b n)
numbers_behind zero a b h = tt
numbers_behind (suc n) a b h = (sym (nat_cmp_is a b Less h), numbers_behind n a (b + 1) (omega arith))

numbers_up : (n a : ℕ) → IsStrictlySortedBy nat_cmp (range_with_len a n)
unfolding IsStrictlySortedBy
numbers_up zero a = tt
numbers_up (suc n) a = (numbers_behind n a (a + 1) (omega arith), numbers_up n (a + 1))

-- ---- the keys of a facet whose buckets have places

abbrev has_places : Kind → List Place → Key → Bool
has_places kind Y k = not (is_empty (bucket_places kind k Y))

-- of a terms facet, before they are ranked
abbrev pub terms_keys_in : Terms → List Place → List Key
terms_keys_in t Y = map value (values_in t Y) ++ not_empty (terms t) Y (asked t.missing missing)

pub terms_keys_up : (t : Terms) (Y : List Place) → IsStrictlySortedBy key_cmp (terms_keys_in t Y)
terms_keys_up t Y =
    let lacking = asked t.missing missing in
    both_up (map value (values_in t Y)) (not_empty (terms t) Y lacking) (sorted-map value key_cmp (values_in t Y) (ascending-values_in t Y))
    (IsStrictlySortedBy-filter key_cmp (has_places (terms t) Y) lacking (asked_up t.missing missing))
    (λ k l m n.
    let at = member_map value (values_in t Y) k m in
    let here = filter_member (has_places (terms t) Y) lacking l n in
    λ i. key_cmp (at.2 i) (asked_is t.missing missing l here.0 i))

-- ---- which they are

-- a key is among keys that pass a test exactly where it passes, if the keys that pass are among them
among_them : (q : Key → Bool) (keys : List Key) → Every q keys → ((k : Key) → q k ≡ true → list_any (same_key k) keys ≡ true) → (k : Key) → list_any (same_key k) keys ≡ q k
among_them q keys all there k = same_tests (list_any (same_key k) keys) (q k) forth (there k)
  where
    forth : list_any (same_key k) keys ≡ true → q k ≡ true
    forth h = let r = passing_member (same_key k) keys h in ap q (same_key_exact k r.0 r.2) ∙ every_member q keys r.0 all r.1

any_left : (k : Key) (ks ls : List Key) → list_any (same_key k) ks ≡ true → list_any (same_key k) (ks ++ ls) ≡ true
any_left k ks ls h = list_any-append (same_key k) ks ls ∙ or_left (list_any (same_key k) ks) (list_any (same_key k) ls) h

any_right : (k : Key) (ks ls : List Key) → list_any (same_key k) ls ≡ true → list_any (same_key k) (ks ++ ls) ≡ true
any_right k ks ls h = list_any-append (same_key k) ks ls ∙ or_right (list_any (same_key k) ks) (list_any (same_key k) ls) h

asked_there : (b : Bool) (k : Key) → b ≡ true → Member k (asked b k)
asked_there true k h = inl refl
asked_there false k h = absurd (false≢true h)

any_asked : (b : Bool) (k : Key) → b ≡ true → list_any (same_key k) (asked b k) ≡ true
any_asked b k h = any_by_member (same_key k) (asked b k) k (asked_there b k h) (same_key_itself k)

gap_there : (n a i : ℕ) → a ≤ i → i < a + n → list_any (same_key (gap i)) (map gap (range_with_len a n)) ≡ true
gap_there zero a i low high = absurd (omega arith)
gap_there (suc n) a i low high = go (same_key (gap i) (gap a)) refl (λ other. gap_there n (a + 1) i (omega arith) (omega arith))
  where
    go : (b : Bool) → same_key (gap i) (gap a) ≡ b → ((i ≡ a → ⊥) → list_any (same_key (gap i)) (map gap (range_with_len (a + 1) n)) ≡ true) → (b || list_any (same_key (gap i)) (map gap (range_with_len (a + 1) n))) ≡ true
    go true e rest = refl
    go false e rest = rest (λ h. false≢true (sym e ∙ ap (λ k. same_key (gap i) (gap k)) (sym h) ∙ same_key_itself (gap i)))

-- ---- the keys of a range facet

-- the keys of so many gaps, and of those beside them that are asked for
module _ (gaps : ℕ) (with_before with_between with_after : Bool) where
  abbrev of_gaps : List Key
  of_gaps = map gap (numbers_below gaps)

  abbrev beside : List Key
  beside = asked with_before before ++ (asked with_between between ++ asked with_after after)

  beside_up : IsStrictlySortedBy key_cmp beside
  beside_up =
      both_up (asked with_before before) (asked with_between between ++ asked with_after after) (asked_up with_before before)
      (both_up (asked with_between between) (asked with_after after) (asked_up with_between between) (asked_up with_after after) (λ k l m n i. key_cmp (asked_is with_between between k m i) (asked_is with_after after l n i)))
      (λ k l m n. elim (member_append (asked with_between between) (asked with_after after) l n) [
        | inl a ↦ (λ i. key_cmp (asked_is with_before before k m i) (asked_is with_between between l a i))
        | inr b ↦ (λ i. key_cmp (asked_is with_before before k m i) (asked_is with_after after l b i))
      ])

  gaps_up : IsStrictlySortedBy key_cmp (of_gaps ++ beside)
  gaps_up = both_up of_gaps beside (sorted-map gap key_cmp (numbers_below gaps) (numbers_up gaps 0)) beside_up (λ k l m n.
      let at = member_map gap (numbers_below gaps) k m in
      elim (member_append (asked with_before before) (asked with_between between ++ asked with_after after) l n) [
        | inl a ↦ (λ i. key_cmp (at.2 i) (asked_is with_before before l a i))
        | inr b ↦ elim (member_append (asked with_between between) (asked with_after after) l b) [
          | inl c ↦ (λ i. key_cmp (at.2 i) (asked_is with_between between l c i))
          | inr c ↦ (λ i. key_cmp (at.2 i) (asked_is with_after after l c i))
        ]
      ])

  -- the key is one of them
  abbrev is_of_gaps : Key → Bool
  is_of_gaps (gap i) = nat_lt i gaps
  is_of_gaps before = with_before
  is_of_gaps between = with_between
  is_of_gaps after = with_after
  is_of_gaps _ = false

  beside_there : (k : Key) → list_any (same_key k) beside ≡ true → list_any (same_key k) (of_gaps ++ beside) ≡ true
  beside_there k h = any_right k of_gaps beside h

  gaps_there : (k : Key) → is_of_gaps k ≡ true → list_any (same_key k) (of_gaps ++ beside) ≡ true
  gaps_there (gap i) h = any_left (gap i) of_gaps beside (gap_there gaps 0 i (omega arith) (let low = ltb-true i gaps h in omega arith))
  gaps_there before h = beside_there before (any_left before (asked with_before before) (asked with_between between ++ asked with_after after) (any_asked with_before before h))
  gaps_there between h =
      beside_there between (any_right between (asked with_before before) (asked with_between between ++ asked with_after after)
      (any_left between (asked with_between between) (asked with_after after) (any_asked with_between between h)))
  gaps_there after h =
      beside_there after (any_right after (asked with_before before) (asked with_between between ++ asked with_after after)
      (any_right after (asked with_between between) (asked with_after after) (any_asked with_after after h)))
  gaps_there (value v) h = absurd (false≢true h)
  gaps_there missing h = absurd (false≢true h)
  gaps_there whole h = absurd (false≢true h)

-- ---- keys that are found

-- the key is one of the facet's, and its bucket has places
abbrev pub is_found : Kind → List Place → Key → Bool
is_found kind Y k = is_key_of kind k && not (is_empty (bucket_places kind k Y))

-- of some keys of the facet, those whose buckets have places
kept_found : (kind : Kind) (Y : List Place) (keys : List Key) → Every (is_key_of kind) keys → Every (is_found kind Y) (not_empty kind Y keys)
kept_found kind Y keys own = every_from_members (is_found kind Y) (not_empty kind Y keys) (λ k m.
    let r = filter_member (has_places kind Y) keys k m in and_from (is_key_of kind k) (has_places kind Y k) (every_member (is_key_of kind) keys k own r.0) r.1)

-- and one of them that has places is there
found_there : (kind : Kind) (Y : List Place) (keys : List Key) (k : Key) → list_any (same_key k) keys ≡ true → has_places kind Y k ≡ true → list_any (same_key k) (not_empty kind Y keys) ≡ true
found_there kind Y keys k there places =
    let r = passing_member (same_key k) keys there in
    let same = same_key_exact k r.0 r.2 in
    any_by_member (same_key k) (not_empty kind Y keys) r.0 (member_of_filter (has_places kind Y) keys r.0 r.1 (sym (ap (has_places kind Y) same) ∙ places)) r.2

-- keys in their order, the facet's and no others
pub record AreAllKeys (kind : Kind) (keys : List Key) : Type 0 where
  pub ascend : IsStrictlySortedBy key_cmp keys
  pub own : Every (is_key_of kind) keys
  pub there : (k : Key) → is_key_of kind k ≡ true → list_any (same_key k) keys ≡ true

pub range_keys_all : (g : Range) → AreAllKeys (range g) (range_keys g)
range_keys_all g = record {
  ascend = gaps_up (gap_count g) g.before g.between g.after;
  own = every_range_key g;
  there = gaps_there (gap_count g) g.before g.between g.after;
}

pub date_range_keys_all : (g : DateRange) → AreAllKeys (date_range g) (date_range_keys g)
date_range_keys_all g = record {
  ascend = gaps_up (date_gap_count g) g.before g.between g.after;
  own = every_date_range_key g;
  there = gaps_there (date_gap_count g) g.before g.between g.after;
}

-- of these, those whose buckets have places
pub kept_up : (kind : Kind) (Y : List Place) (keys : List Key) → AreAllKeys kind keys → IsStrictlySortedBy key_cmp (not_empty kind Y keys)
kept_up kind Y keys all = IsStrictlySortedBy-filter key_cmp (has_places kind Y) keys all.ascend

pub kept_are : (kind : Kind) (Y : List Place) (keys : List Key) → AreAllKeys kind keys → (k : Key) → list_any (same_key k) (not_empty kind Y keys) ≡ is_found kind Y k
kept_are kind Y keys all = among_them (is_found kind Y) (not_empty kind Y keys) (kept_found kind Y keys all.own) (λ k h.
    let r = and_parts (is_key_of kind k) (has_places kind Y k) h in found_there kind Y keys k (all.there k r.0) r.1)

values_found : (t : Terms) (Y : List Place) → Every (λ v. is_found (terms t) Y (value v)) (values_in t Y)
values_found t Y = every_from_members (λ v. is_found (terms t) Y (value v)) (values_in t Y) (λ v m.
    let found = (filter_member (λ w. not (is_empty (value_places t w Y))) (distinct (pair_values t.field Y)) v m).1 in
    let place = passing_member (holds_value t v) Y (sym (not-is_empty-filter (holds_value t v) Y) ∙ found) in
    and_from (has_prefix t.prefix v) (has_places (terms t) Y (value v)) (and_parts (has_val v (values_of (place.0).document t.field)) (has_prefix t.prefix v) place.2).1 found)

value_there : (t : Terms) (Y : List Place) (v : Val) → has_places (terms t) Y (value v) ≡ true → list_any (same_key (value v)) (map value (values_in t Y)) ≡ true
value_there t Y v h =
    list_any-map value (λ w. true) (same_key (value v)) (same_val v) (values_in t Y) (λ w k. refl) (every_from_members (λ w. true) (values_in t Y) (λ w m. refl))
    ∙ has_val-values_in t v Y ∙ sym (not-is_empty-filter (holds_value t v) Y) ∙ h

terms_key_there : (t : Terms) (Y : List Place) (k : Key) → is_found (terms t) Y k ≡ true → list_any (same_key k) (terms_keys_in t Y) ≡ true
terms_key_there t Y (value v) h =
    any_left (value v) (map value (values_in t Y)) (not_empty (terms t) Y (asked t.missing missing)) (value_there t Y v (and_parts (has_prefix t.prefix v) (has_places (terms t) Y (value v)) h).1)
terms_key_there t Y missing h =
    let r = and_parts t.missing (has_places (terms t) Y missing) h in
    any_right missing (map value (values_in t Y)) (not_empty (terms t) Y (asked t.missing missing)) (found_there (terms t) Y (asked t.missing missing) missing (any_asked t.missing missing r.0) r.1)
terms_key_there t Y (gap i) h = absurd (false≢true h)
terms_key_there t Y before h = absurd (false≢true h)
terms_key_there t Y between h = absurd (false≢true h)
terms_key_there t Y after h = absurd (false≢true h)
terms_key_there t Y whole h = absurd (false≢true h)

pub terms_keys_are : (t : Terms) (Y : List Place) (k : Key) → list_any (same_key k) (terms_keys_in t Y) ≡ is_found (terms t) Y k
terms_keys_are t Y =
    among_them (is_found (terms t) Y) (terms_keys_in t Y)
    (every_append (is_found (terms t) Y) (map value (values_in t Y)) (not_empty (terms t) Y (asked t.missing missing)) (every_map (is_found (terms t) Y) value (values_in t Y) (values_found t Y))
    (kept_found (terms t) Y (asked t.missing missing) (every_asked (is_terms_key t) t.missing missing refl)))
    (terms_key_there t Y)
