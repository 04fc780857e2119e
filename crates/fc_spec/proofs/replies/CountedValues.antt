-- The buckets of a terms facet without a limit, sorted by value, are as many as the values that it finds.
use Rattle.std.proofs.lemmas.Bool.{false≢true, le-leb}
use Rattle.std.proofs.Common.{◌≡◌, ℕ, zero, suc, ◌==◌, Option, List, [], ◌∷◌, ◌++◌, map, length, Bool, true, false, cond, not, ◌&&◌, ◌||◌, nat_le, None, refl, sym, ◌∙◌, ap, arith}
use Rattle.std.specs.List.{filter, list_any, AllByRecursion}
use Rattle.std.specs.List.Sorted.{IsStrictlySortedBy}
use Rattle.std.proofs.lemmas.List.Sorted.{IsPermutation-refl}
use Rattle.std.specs.Ordering.{is_lt, ordering_then}
use Rattle.std.specs.declared.cmp.Ordering.TheVariants.{Less}
use Rattle.std.proofs.lemmas.List.Elements.{All-from_recursion}
use Rattle.std.proofs.lemmas.List.Kept.{IsStrictlySortedBy-filter}
use Rattle.std.proofs.lemmas.Map.Keys.{Less-from_sorted}
use Rattle.fc_spec.specs.documents.Val.{Text, Val, val_cmp, has_val, same_val, distinct}
use Rattle.fc_spec.specs.documents.Document.{values_of}
use Rattle.fc_spec.specs.documents.World.{World, Place}
use Rattle.fc_spec.specs.words.Lists.{is_empty}
use Rattle.fc_spec.specs.requests.Request.{Show, Terms, terms, no_nodes, Request}
use Rattle.fc_spec.specs.requests.Spread.{by_value, number_terms}
use Rattle.fc_spec.specs.requests.Buckets.{Key, value, has_prefix}
use Rattle.fc_spec.specs.requests.Statistics.{Stats, stats_over, pair_values}
use Rattle.fc_spec.specs.requests.Ranks.{Entry, entry_cmp, page}
use Rattle.fc_spec.specs.replies.Values.{value_places, values_in, entries_in}
use Rattle.fc_spec.specs.replies.Reply.{Facets, row_of}
use Rattle.fc_spec.specs.replies.Printed.{terms_keys}
use Rattle.fc_spec.specs.replies.Reading.{PathDomain, over_places}
use Rattle.fc_spec.specs.replies.Distributed.{printed_keys}
use Rattle.fc_spec.specs.replies.Folded.{listed_in}
use Rattle.fc_spec.specs.replies.Numbers.{unique_in, buckets_in}
use Rattle.fc_spec.proofs.words.Members.{Member, Every, every_from_members, all_from_members, filter_every, any_by_member, list_any-flat_map}
use Rattle.fc_spec.proofs.words.Counting.{filter_agrees_within}
use Rattle.fc_spec.proofs.documents.Shards.{is_on}
use Rattle.fc_spec.proofs.documents.ValOrder.{same_val_itself}
use Rattle.fc_spec.proofs.replies.Unlimited.{chosen_entries_all}
use Rattle.fc_spec.proofs.documents.Ascending.{has_val-distinct}
use Rattle.fc_spec.proofs.requests.FoundValues.{holds_value, not-is_empty-filter, ascending-values_in}
use Rattle.fc_spec.proofs.requests.SortedEntries.{page_is_cut}

-- entries made for values, one for each
module _ (stats : Val → Stats) where
  abbrev made : Val → Entry
  made v = record { val = v; stats = stats v }

  first_before : (v : Val) (vs : List Val) → AllByRecursion (λ w. val_cmp v w ≡ Less) vs → AllByRecursion (λ e. entry_cmp by_value (made v) e ≡ Less) (map made vs)
  first_before v [] h = tt
  first_before v (w ∷ ws) h = (first, first_before v ws h.1)
    where
      first : entry_cmp by_value (made v) (made w) ≡ Less
      first = ap (λ o. ordering_then o o) h.0

  entries_ascend : (vs : List Val) → IsStrictlySortedBy val_cmp vs → IsStrictlySortedBy (entry_cmp by_value) (map made vs)
  unfolding IsStrictlySortedBy
  entries_ascend [] h = tt
  entries_ascend (v ∷ vs) h = (first_before v vs h.0, entries_ascend vs h.1)

  count_made : (p : Entry → Bool) (vs : List Val) → length (filter p (map made vs)) ≡ length (filter (λ v. p (made v)) vs)
  count_made p [] = refl
  count_made p (v ∷ vs) = go (p (made v)) (count_made p vs)
    where
      go : (b : Bool) → length (filter p (map made vs)) ≡ length (filter (λ w. p (made w)) vs)
          → length (cond b (made v ∷ filter p (map made vs)) (filter p (map made vs))) ≡ length (cond b (v ∷ filter (λ w. p (made w)) vs) (filter (λ w. p (made w)) vs))
      go true e = ap suc e
      go false e = e

-- a list that ascends is its own page
page_of_all : (V : List Entry) → IsStrictlySortedBy (entry_cmp by_value) V → page by_value 0 None V ≡ V
page_of_all V up = page_is_cut by_value 0 None V V (record {
  members = IsPermutation-refl V;
  ahead = λ i j d l m. ap is_lt (Less-from_sorted (entry_cmp by_value) V i j d up l m);
})

-- to keep some of those kept is to keep those that pass both tests
filter_twice : (p q : Val → Bool) (vs : List Val) → filter q (filter p vs) ≡ filter (λ v. p v && q v) vs
filter_twice p q [] = refl
filter_twice p q (v ∷ vs) = go (p v) (filter_twice p q vs)
  where
    go : (b : Bool) → filter q (filter p vs) ≡ filter (λ w. p w && q w) vs → filter q (cond b (v ∷ filter p vs) (filter p vs)) ≡ cond (b && q v) (v ∷ filter (λ w. p w && q w) vs) (filter (λ w. p w && q w) vs)
    go true e = ap (λ l. cond (q v) (v ∷ l) l) e
    go false e = e

-- some place passes with what holds of all of them
any_with : (q : Place → Bool) (b : Bool) (Y : List Place) → list_any (λ p. q p && b) Y ≡ (list_any q Y && b)
any_with q b [] = refl
any_with q b (p ∷ Y) = ap (λ c. (q p && b) || c) (any_with q b Y) ∙ go (q p) b (list_any q Y)
  where
    go : (a b c : Bool) → ((a && b) || (c && b)) ≡ ((a || c) && b)
    go true true c = refl
    go true false true = refl
    go true false false = refl
    go false b c = refl

-- a value of the field is found where it begins with the prefix
module _ (t : Terms) (Y : List Place) where
  abbrev all_values : List Val
  all_values = distinct (pair_values t.field Y)

  abbrev is_found : Val → Bool
  is_found v = not (is_empty (value_places t v Y))

  held : (v : Val) → Member v all_values → list_any (λ p. has_val v (values_of p.document t.field)) Y ≡ true
  held v m =
      sym (has_val-distinct v (pair_values t.field Y) ∙ list_any-flat_map (same_val v) (λ p. values_of p.document t.field) Y)
      ∙ any_by_member (same_val v) all_values v m (same_val_itself v)

  found_is : (v : Val) → Member v all_values → is_found v ≡ has_prefix t.prefix v
  found_is v m =
      not-is_empty-filter (holds_value t v) Y ∙ any_with (λ p. has_val v (values_of p.document t.field)) (has_prefix t.prefix v) Y
      ∙ ap (λ b. b && has_prefix t.prefix v) (held v m)

  abbrev is_enough : Val → Bool
  is_enough v = nat_le t.mincount (length (value_places t v Y))

  pub found_are_buckets : length (filter is_enough (values_in t Y)) ≡ buckets_in t Y
  found_are_buckets =
      ap length (filter_twice is_found is_enough all_values
      ∙ filter_agrees_within (λ v. is_found v && is_enough v) (λ v. has_prefix t.prefix v && is_enough v) all_values
      (All-from_recursion (λ v. (is_found v && is_enough v) ≡ (has_prefix t.prefix v && is_enough v)) all_values
      (all_from_members (λ v. (is_found v && is_enough v) ≡ (has_prefix t.prefix v && is_enough v)) all_values (λ v m. ap (λ b. b && is_enough v) (found_is v m)))))

-- one place at least
one_at_least : (n : ℕ) → not (n == 0) ≡ true → nat_le 1 n ≡ true
one_at_least zero h = absurd (false≢true h)
one_at_least (suc n) h = le-leb 1 (suc n) (omega arith)

-- all values of the field are such, where one place is enough and any value will do
pub unique_are_buckets : (field : ℕ) (X : List Place) → buckets_in (number_terms field) X ≡ unique_in field X
unique_are_buckets field X =
    let t = number_terms field in
    ap length (filter_every (λ v. true && nat_le 1 (length (value_places t v X))) (all_values t X)
    (every_from_members (λ v. true && nat_le 1 (length (value_places t v X))) (all_values t X) (λ v m. one_at_least (length (value_places t v X)) (found_is t X v m))))

-- all buckets of a row of values are in the list
listed_values : (t : Terms) (count : Key → ℕ) (inside : Key → Facets) (es : List Entry) → listed_in (row_of (terms t) count inside (map (λ e. value e.val) es ++ [])) ≡ length es
listed_values t count inside [] = refl
listed_values t count inside (e ∷ es) = ap suc (listed_values t count inside es)

-- a terms facet that wants each value of the field, once it begins with a prefix and has a mincount
abbrev pub each_value : ℕ → ℕ → Option Text → Show → Terms
each_value field mincount prefix show = record (number_terms field) { mincount = mincount; prefix = prefix; show = show }

-- prints as many buckets as there are such values
pub listed_are_buckets : (r : Request) (W : World) (field mincount : ℕ) (prefix : Option Text) (show : Show) (count : Key → ℕ) (inside : Key → Facets) (H : List ℕ) (Y : PathDomain) → Every (is_on H) Y.places
    → listed_in (row_of (terms (each_value field mincount prefix show)) count inside (printed_keys (over_places r W) (terms (each_value field mincount prefix show)) no_nodes H Y)) ≡ buckets_in (each_value field mincount prefix show) Y.places
listed_are_buckets r W field mincount prefix show count inside H Y on =
    ap (λ es. listed_in (row_of (terms t) count inside (terms_keys t es))) (chosen_entries_all r W t no_nodes H Y refl on)
    ∙ listed_values t count inside (page by_value 0 None (filter enough (entries_in t [] Y.places)))
    ∙ ap length (page_of_all (filter enough (entries_in t [] Y.places)) (IsStrictlySortedBy-filter (entry_cmp by_value) enough (entries_in t [] Y.places) (entries_ascend stats (values_in t Y.places) (ascending-values_in t Y.places))))
    ∙ count_made stats enough (values_in t Y.places)
    ∙ found_are_buckets t Y.places
  where
    t : Terms
    t = each_value field mincount prefix show

    enough : Entry → Bool
    enough e = nat_le mincount e.stats.count

    stats : Val → Stats
    stats v = stats_over [] (value_places t v Y.places)
