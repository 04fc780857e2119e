-- The top values are among those that shards list.
use Rattle.std.specs.Prelude.{◌≡◌, ℕ, zero, suc, ◌+◌, ◌-◌, ◌<◌, ◌≤◌, List, [], ◌∷◌, ◌++◌, map, length, sum, Bool, true, false, cond, not, ◌&&◌, nat_le, ◌==◌, Some, unwrap_or, All, count_by}
use Rattle.std.specs.List.{filter, flat_map, list_any, range_with_len}
use Rattle.std.specs.List.Sorted.{IsStrictlySortedBy}
use Rattle.std.proofs.Common.{refl, ap, sym, ◌∙◌, subst, arith, ◌⊎◌, inl, inr}
use Rattle.std.proofs.Math.Nat.{le-div_iff_mul-le}
use Rattle.std.proofs.lemmas.Bool.{false≢true, le-leb, leb-true, eqb-true, eq-eqb, and_parts, and_from, or_left, or_right, or_cases, ne_eqb}
use Rattle.std.proofs.lemmas.Bool.Decides.{nat_tests}
use Rattle.std.proofs.lemmas.List.{length-map}
use Rattle.std.proofs.lemmas.List.Folds.{list_any-append}
use Rattle.std.proofs.lemmas.List.Kept.{IsStrictlySortedBy-filter}
use Rattle.std.proofs.lemmas.List.Sums.{sum_by-cons}
use Rattle.fc_spec.specs.documents.Val.{Val, val_cmp, has_val, same_val, distinct}
use Rattle.fc_spec.specs.words.Lists.{is_empty}
use Rattle.fc_spec.specs.documents.World.{World, Place, on_shards}
use Rattle.fc_spec.specs.requests.Request.{Sort, Terms, no_nodes, Request}
use Rattle.fc_spec.specs.requests.Statistics.{stats_over, pair_values}
use Rattle.fc_spec.specs.requests.Ranks.{Entry, rank, page, of_ranks}
use Rattle.fc_spec.specs.requests.Least.{count_first, Counted, counted_entry, count_or_one, count_at, share, least_count}
use Rattle.fc_spec.specs.replies.Values.{value_places, values_in, entries_in}
use Rattle.fc_spec.specs.replies.Reading.{PathDomain, offered, over_places}
use Rattle.fc_spec.specs.replies.Chosen.{candidates, offering, entry_on, candidate_entries}
use Rattle.fc_spec.specs.replies.Tops.{printed_values, values_from, least_in, top_bound}
use Rattle.fc_spec.specs.laws.CertificateLaw.{listed_of, AreDifferent, listed_by, entries_listed, TopsAreListed, TopsLookAtCounts}
use Rattle.fc_spec.proofs.words.Members.{Member, every_from_members, every_member, filter_member, member_of_filter, passing_member, any_by_member, same_tests, list_any-flat_map, list_any-filter}
use Rattle.fc_spec.proofs.words.AlikeLists.{map_alike, member_map}
use Rattle.fc_spec.proofs.words.Rests.{all_of_members}
use Rattle.fc_spec.proofs.documents.ValOrder.{same_val_exact, same_val_itself}
use Rattle.fc_spec.proofs.documents.Ascending.{has_val-distinct, distinct_ascends, same_ascending}
use Rattle.fc_spec.proofs.documents.Shards.{is_on}
use Rattle.fc_spec.proofs.requests.Certificate.{count_by-weaker, count_by-map, count_by-filter, certified_are_enough, shares_are_enough, ranks_are_reached}
use Rattle.fc_spec.proofs.requests.FoundValues.{holds_value, not-is_empty-filter, has_val-values_in, ascending-values_in}
use Rattle.fc_spec.proofs.requests.Locality.{filter-filter}
use Rattle.fc_spec.proofs.requests.Together.{length-on_more, on_no_shard}
use Rattle.fc_spec.proofs.messages.HeldAnswers.{part}
use Rattle.fc_spec.proofs.replies.OfferedValues.{every_offered, vals_of_some}

-- ---- by count, statistics play no part

abbrev bare : Entry → Entry
bare e = record { val = e.val; stats = record { count = e.stats.count; values = [] } }

filter-map : {X Y : Type 0} (p : Y → Bool) (f : X → Y) (xs : List X) → filter p (map f xs) ≡ map f (filter (λ x. p (f x)) xs)
filter-map p f [] = refl
filter-map p f (x ∷ xs) = go (p (f x)) (filter-map p f xs)
  where
    go : (b : Bool) → filter p (map f xs) ≡ map f (filter (λ y. p (f y)) xs) → cond b (f x ∷ filter p (map f xs)) (filter p (map f xs)) ≡ map f (cond b (x ∷ filter (λ y. p (f y)) xs) (filter (λ y. p (f y)) xs))
    go true e = ap (λ ys. f x ∷ ys) e
    go false e = e

map-flat_map : {X Y Z : Type 0} (g : Y → Z) (f : X → List Y) (xs : List X) → flat_map (λ x. map g (f x)) xs ≡ map g (flat_map f xs)
map-flat_map g f [] = refl
map-flat_map {Y = Y} g f (x ∷ xs) = ap (λ zs. map g (f x) ++ zs) (map-flat_map g f xs) ∙ sym (joins (f x))
  where
    joins : (ys : List Y) → map g (ys ++ flat_map f xs) ≡ map g ys ++ map g (flat_map f xs)
    joins [] = refl
    joins (y ∷ ys) = ap (λ zs. g y ∷ zs) (joins ys)

map-map : {X Y Z : Type 0} (g : Y → Z) (f : X → Y) (xs : List X) → map g (map f xs) ≡ map (λ x. g (f x)) xs
map-map g f [] = refl
map-map g f (x ∷ xs) = ap (λ zs. g (f x) ∷ zs) (map-map g f xs)

bare_rank : (V : List Entry) (e : Entry) → rank count_first (map bare V) (bare e) ≡ rank count_first V e
bare_rank V e = count_by-map _ bare V

bare_ranks : (V : List Entry) (from n : ℕ) → of_ranks count_first (map bare V) from n ≡ map bare (of_ranks count_first V from n)
bare_ranks V from n =
    (λ i. flat_map (λ k. (filter-map (λ e. rank count_first (map bare V) e == k) bare V ∙ ap (λ (t : Entry → ℕ). map bare (filter (λ e. t e == k) V)) (λ j e. bare_rank V e j)) i) (range_with_len from n))
    ∙ map-flat_map bare (λ k. filter (λ e. rank count_first V e == k) V) (range_with_len from n)

-- what is printed by count
abbrev printed_by : Sort → Terms → List Entry → List Val
printed_by s t V = map (λ e. e.val) (page s t.offset t.limit (filter (λ e. nat_le t.mincount e.stats.count) V))

bare_printed : (t : Terms) (V : List Entry) → printed_by count_first t (map bare V) ≡ printed_by count_first t V
bare_printed t V =
    let W = filter (λ (e : Entry). nat_le t.mincount e.stats.count) V in
    ap (λ es. map (λ (e : Entry). e.val) (page count_first t.offset t.limit es)) (filter-map (λ e. nat_le t.mincount e.stats.count) bare V)
    ∙ ap (λ n. map (λ (e : Entry). e.val) (of_ranks count_first (map bare W) t.offset (unwrap_or t.limit n))) (length-map W bare)
    ∙ ap (map (λ e. e.val)) (bare_ranks W t.offset (unwrap_or t.limit (length W)))
    ∙ map-map (λ (e : Entry). e.val) bare (of_ranks count_first W t.offset (unwrap_or t.limit (length W)))

pub counts_alone : TopsLookAtCounts
counts_alone t ss Y e =
    ap (λ s. printed_by s t (entries_in t ss Y)) e ∙ sym (bare_printed t (entries_in t ss Y))
    ∙ ap (printed_by count_first t) (map-map bare (λ v. record { val = v; stats = stats_over ss (value_places t v Y) }) (values_in t Y))
    ∙ sym (ap (λ s. printed_by s t (entries_in t [] Y)) e)

-- ---- lists of values

-- of ascending values those that are among others, all of which are among them, are those others
among_values : (D V : List Val) → IsStrictlySortedBy val_cmp D → IsStrictlySortedBy val_cmp V → ((v : Val) → has_val v D ≡ true → has_val v V ≡ true) → filter (λ v. has_val v D) V ≡ D
among_values D V up all h = same_ascending (filter (λ v. has_val v D) V) D (IsStrictlySortedBy-filter val_cmp (λ v. has_val v D) V all) up (λ v. list_any-filter (same_val v) (λ w. has_val w D) V ∙ same_tests _ _ (forth v) (back v))
  where
    forth : (v : Val) → list_any (λ w. has_val w D && same_val v w) V ≡ true → has_val v D ≡ true
    forth v k =
        let w = passing_member (λ w. has_val w D && same_val v w) V k in
        let both = and_parts (has_val w.0 D) (same_val v w.0) w.2 in
        subst (λ u. has_val u D ≡ true) (sym (same_val_exact v w.0 both.1)) both.0

    back : (v : Val) → has_val v D ≡ true → list_any (λ w. has_val w D && same_val v w) V ≡ true
    back v k =
        let w = passing_member (same_val v) V (h v k) in
        any_by_member (λ w. has_val w D && same_val v w) V w.0 w.1 (and_from (has_val w.0 D) (same_val v w.0) (subst (λ u. has_val u D ≡ true) (same_val_exact v w.0 w.2) k) w.2)

-- a member is among the values
pub member_has : (v : Val) (vs : List Val) → Member v vs → has_val v vs ≡ true
member_has v vs m = any_by_member (same_val v) vs v m (same_val_itself v)

pub has_member : (v : Val) (vs : List Val) → has_val v vs ≡ true → Member v vs
has_member v vs h = let w = passing_member (same_val v) vs h in subst (λ u. Member u vs) (sym (same_val_exact v w.0 w.2)) w.1

-- a test of what is found is one of what is there
not_empty-some : {X : Type 0} (xs : List X) → not (is_empty xs) ≡ true → 1 ≤ length xs
not_empty-some [] h = absurd (false≢true h)
not_empty-some (x ∷ xs) h = omega arith

some-not_empty : {X : Type 0} (xs : List X) → 1 ≤ length xs → not (is_empty xs) ≡ true
some-not_empty [] h = absurd (omega arith)
some-not_empty (x ∷ xs) h = ap not (ne_eqb (suc (length xs)) 0 (λ e. omega arith))

length-filter-le : {X : Type 0} (p : X → Bool) (xs : List X) → length (filter p xs) ≤ length xs
length-filter-le p [] = omega arith
length-filter-le p (x ∷ xs) = go (p x) (length-filter-le p xs)
  where
    go : (b : Bool) → length (filter p xs) ≤ length xs → length (cond b (x ∷ filter p xs) (filter p xs)) ≤ suc (length xs)
    go true h = omega arith
    go false h = omega arith

-- a list with a member has one
has_some : {X : Type 0} (xs : List X) (x : X) → Member x xs → 1 ≤ length xs
has_some [] x m = absurd m
has_some (y ∷ ys) x m = omega arith

leb-false : (a b : ℕ) → nat_le a b ≡ false → b < a
leb-false a b h = grind (arith, nat_tests)

-- a share of something is something
pub share_of_some : (u m : ℕ) → 1 ≤ u → 1 ≤ m → 1 ≤ share u m
share_of_some u m h k = (le-div_iff_mul-le {k = m} {x = 1} {y = u + (m - 1)} k).1 (omega arith)

-- ---- counts on shards

-- the count on shards is the sum of those on each
pub sum_of_parts : (H : List ℕ) (S : List Place) → AreDifferent H → sum (map (λ i. length (part i S)) H) ≡ length (on_shards H S)
sum_of_parts [] S d = sym (ap length (on_no_shard S))
sum_of_parts (i ∷ H) S d = sum_by-cons (λ n. n) (length (part i S)) (map (λ j. length (part j S)) H) ∙ ap (λ n. length (part i S) + n) (sum_of_parts H S d.1) ∙ sym (length-on_more i H S d.0)

module _ (r : Request) (W : World) (t : Terms) (H : List ℕ) (D : PathDomain) (different : AreDifferent H) (on : on_shards H D.places ≡ D.places) where
  abbrev Y : List Place
  Y = D.places

  -- the places of a value, and its count on a shard
  abbrev P : Val → List Place
  P v = value_places t v Y

  abbrev count_on : Val → ℕ → ℕ
  count_on v i = length (value_places t v (part i Y))

  pub part_of_value : (v : Val) (i : ℕ) → part i (P v) ≡ value_places t v (part i Y)
  part_of_value v i = filter-filter (is_on (i ∷ [])) (holds_value t v) Y

  abbrev row : Val → Counted
  row v = record { val = v; counts = map (count_on v) H }

  -- the sum of a row is the count over all places
  pub row_sum : (v : Val) → sum (map (count_on v) H) ≡ length (P v)
  row_sum v =
      ap sum (map_alike (count_on v) (λ i. length (part i (P v))) H (λ i m. sym (ap length (part_of_value v i)))) ∙ sum_of_parts H (P v) different
      ∙ ap length (filter-filter (is_on H) (holds_value t v) Y ∙ ap (filter (holds_value t v)) on)

  abbrev V : List Val
  V = values_in t Y

  abbrev table : List Counted
  table = map row V

  -- entries made of rows are those over all places
  rows_are : (vs : List Val) → map counted_entry (map row vs) ≡ map (λ v. record { val = v; stats = stats_over [] (P v) }) vs
  rows_are vs = map-map counted_entry row vs ∙ map_alike (λ v. counted_entry (row v)) (λ v. record { val = v; stats = stats_over [] (P v) }) vs (λ v m. ap (λ n. record { val = v; stats = record { count = n; values = [] } }) (row_sum v))

  -- a value of the table has a place
  found : (v : Val) → Member v V → 1 ≤ length (P v)
  found v m = not_empty-some (P v) (filter_member (λ w. not (is_empty (P w))) (distinct (pair_values t.field Y)) v m).1

  counted : All (λ c. 1 ≤ sum c.counts) table
  counted = all_of_members (λ (c : Counted). 1 ≤ sum c.counts) table (λ c m. let v = member_map row V c m in subst (λ (d : Counted). 1 ≤ sum d.counts) (sym v.2) (omega (arith, row_sum v.0, found v.0 v.1)))

  -- a value of one shard is among all
  of_shard : (v : Val) (i : ℕ) → has_val v (values_in t (part i Y)) ≡ true → has_val v V ≡ true
  of_shard v i h =
      let p = passing_member (holds_value t v) (part i Y) (sym (has_val-values_in t v (part i Y)) ∙ h) in
      has_val-values_in t v Y ∙ any_by_member (holds_value t v) Y p.0 (filter_member (is_on (i ∷ [])) Y p.0 p.1).0 p.2

  -- what a shard offers, and what it lists from a count on, are values of its own
  offered_own : (v : Val) (i : ℕ) → has_val v (offered t no_nodes Y i) ≡ true → has_val v (values_in t (part i Y)) ≡ true
  offered_own v i h =
      let w = passing_member (same_val v) (offered t no_nodes Y i) h in
      let own = every_offered (λ u. has_val u (values_in t (part i Y))) t no_nodes Y i (every_from_members (λ u. has_val u (values_in t (part i Y))) (values_in t (part i Y)) (λ u m. member_has u (values_in t (part i Y)) m)) in
      subst (λ u. has_val u (values_in t (part i Y)) ≡ true) (sym (same_val_exact v w.0 w.2)) (every_member (λ u. has_val u (values_in t (part i Y))) (offered t no_nodes Y i) w.0 own w.1)

  abbrev least : ℕ
  least = least_in (over_places r W) t H D

  from_is : (i : ℕ) → values_from t least Y i ≡ filter (λ v. nat_le least (count_on v i)) (values_in t (part i Y))
  from_is i = vals_of_some (λ v. stats_over [] (value_places t v (part i Y))) (λ e. nat_le least e.stats.count) (values_in t (part i Y))

  from_own : (v : Val) (i : ℕ) → has_val v (values_from t least Y i) ≡ true → has_val v (values_in t (part i Y)) ≡ true
  from_own v i h = member_has v (values_in t (part i Y)) (filter_member (λ v. nat_le least (count_on v i)) (values_in t (part i Y)) v (has_member v _ (sym (ap (has_val v) (from_is i)) ∙ h))).0

  -- a value with the least count is listed
  from_listed : (v : Val) (i : ℕ) → 1 ≤ least → least ≤ count_on v i → has_val v (values_from t least Y i) ≡ true
  from_listed v i some h =
      let own : has_val v (values_in t (part i Y)) ≡ true = has_val-values_in t v (part i Y) ∙ sym (not-is_empty-filter (holds_value t v) (part i Y)) ∙ some-not_empty (value_places t v (part i Y)) (omega arith) in
      ap (has_val v) (from_is i)
      ∙ member_has v _ (member_of_filter (λ v. nat_le least (count_on v i)) (values_in t (part i Y)) v (has_member v (values_in t (part i Y)) own) (le-leb least (count_on v i) h))

  -- the listed values
  abbrev by : ℕ → List Val
  by i = listed_by r W t H D i

  abbrev L : List Val
  L = distinct (flat_map by H)

  abbrev is_listed : Val → Bool
  is_listed v = has_val v L

  listed_at : (v : Val) → is_listed v ≡ list_any (λ i. has_val v (by i)) H
  listed_at v = has_val-distinct v (flat_map by H) ∙ list_any-flat_map (same_val v) by H

  by_own : (v : Val) (i : ℕ) → has_val v (by i) ≡ true → has_val v (values_in t (part i Y)) ≡ true
  by_own v i h = elim (or_cases (has_val v (offered t no_nodes Y i)) (has_val v (values_from t least Y i)) (sym (list_any-append (same_val v) (offered t no_nodes Y i) (values_from t least Y i)) ∙ h)) [
    | inl one ↦ offered_own v i one
    | inr other ↦ from_own v i other
  ]

  listed_is : filter is_listed V ≡ L
  listed_is = among_values L V (distinct_ascends (flat_map by H)) (ascending-values_in t Y) (λ v h. let i = passing_member (λ i. has_val v (by i)) H (sym (listed_at v) ∙ h) in of_shard v i.0 (by_own v i.0 i.2))

  -- ---- the candidates

  abbrev C : List Val
  C = candidates (over_places r W) t no_nodes H D

  abbrev offering_of : Val → List ℕ
  offering_of v = offering (over_places r W) t no_nodes H D v

  candidate_at : (v : Val) → has_val v C ≡ list_any (λ i. has_val v (offered t no_nodes Y i)) H
  candidate_at v = has_val-distinct v (flat_map (λ i. offered t no_nodes Y i) H) ∙ list_any-flat_map (same_val v) (λ i. offered t no_nodes Y i) H

  candidates_are : filter (λ v. has_val v C) V ≡ C
  candidates_are = among_values C V (distinct_ascends (flat_map (λ i. offered t no_nodes Y i) H)) (ascending-values_in t Y)
      (λ v h. let i = passing_member (λ i. has_val v (offered t no_nodes Y i)) H (sym (candidate_at v) ∙ h) in of_shard v i.0 (offered_own v i.0 i.2))

  candidate_listed : (v : Val) → has_val v C ≡ true → is_listed v ≡ true
  candidate_listed v h =
      let i = passing_member (λ i. has_val v (offered t no_nodes Y i)) H (sym (candidate_at v) ∙ h) in
      listed_at v ∙ any_by_member (λ i. has_val v (by i)) H i.0 i.1
      (list_any-append (same_val v) (offered t no_nodes Y i.0) (values_from t least Y i.0) ∙ or_left (has_val v (offered t no_nodes Y i.0)) (has_val v (values_from t least Y i.0)) i.2)

  -- the part of a candidate has a place, and no more than all
  part_some : (v : Val) → Member v C → 1 ≤ length (on_shards (offering_of v) (P v))
  part_some v m =
      let i = passing_member (λ i. has_val v (offered t no_nodes Y i)) H (sym (candidate_at v) ∙ member_has v C m) in
      let p = passing_member (holds_value t v) (part i.0 Y) (sym (has_val-values_in t v (part i.0 Y)) ∙ offered_own v i.0 i.2) in
      let q = filter_member (is_on (i.0 ∷ [])) Y p.0 p.1 in
      let here : i.0 ≡ (p.0).shard = elim (or_cases (i.0 == (p.0).shard) false q.1) [ inl e ↦ eqb-true i.0 (p.0).shard e | inr f ↦ absurd (false≢true f) ] in
      let there : is_on (offering_of v) p.0 ≡ true = any_by_member (λ j. j == (p.0).shard) (offering_of v) i.0 (member_of_filter (λ j. has_val v (offered t no_nodes Y j)) H i.0 i.1 i.2) (eq-eqb i.0 (p.0).shard here) in
      not_empty-some (on_shards (offering_of v) (P v)) (not-is_empty-filter (is_on (offering_of v)) (P v) ∙ any_by_member (is_on (offering_of v)) (P v) p.0 (member_of_filter (holds_value t v) Y p.0 q.0 p.2) there)

  abbrev E : List Entry
  E = candidate_entries (over_places r W) t no_nodes H D

  abbrev made : Val → Entry
  made v = entry_on (over_places r W) t no_nodes H D (offering_of v) v

  entry_some : (e : Entry) → Member e E → 1 ≤ e.stats.count
  entry_some e m = let v = member_map made C e m in subst (λ (d : Entry). 1 ≤ d.stats.count) (sym v.2) (part_some v.0 v.1)

  count_at_some : (k : ℕ) → 1 ≤ count_at E k
  count_at_some k = go (filter (λ e. rank count_first E e == k) E) (λ e m. entry_some e (filter_member (λ e. rank count_first E e == k) E e m).0)
    where
      go : (F : List Entry) → ((e : Entry) → Member e F → 1 ≤ e.stats.count) → 1 ≤ count_or_one F
      go [] h = omega arith
      go (e ∷ es) h = h e (inl refl)

  -- where k + 1 candidates reach a count, so many listed values do
  reached : (u k : ℕ) → k ≤ count_by (λ e. nat_le u e.stats.count) E → k ≤ count_by (λ c. nat_le u (sum c.counts)) (listed_of is_listed table)
  reached u k h =
      let of_entries = count_by-map (λ e. nat_le u e.stats.count) made C in
      let among : count_by (λ v. nat_le u (length (on_shards (offering_of v) (P v)))) (filter (λ v. has_val v C) V) ≡ count_by (λ v. nat_le u (length (on_shards (offering_of v) (P v)))) C = ap (count_by (λ v. nat_le u (length (on_shards (offering_of v) (P v))))) candidates_are in
      let both = count_by-filter (λ v. nat_le u (length (on_shards (offering_of v) (P v)))) (λ v. has_val v C) V in
      let fewer = count_by-weaker (λ v. has_val v C && nat_le u (length (on_shards (offering_of v) (P v)))) (λ v. is_listed v && nat_le u (sum (map (count_on v) H))) V
      (λ v m e. let parts = and_parts (has_val v C) (nat_le u (length (on_shards (offering_of v) (P v)))) e in
      and_from (is_listed v) (nat_le u (sum (map (count_on v) H))) (candidate_listed v parts.0)
      (le-leb u (sum (map (count_on v) H)) (omega (arith, leb-true u (length (on_shards (offering_of v) (P v))) parts.1, length-filter-le (is_on (offering_of v)) (P v), row_sum v)))) in
      let of_rows = count_by-map (λ c. is_listed c.val && nat_le u (sum c.counts)) row V in
      let listed_rows = count_by-filter (λ c. nat_le u (sum c.counts)) (λ c. is_listed c.val) table in
      omega (arith, of_entries, among, both, fewer, of_rows, listed_rows)

  -- ---- what is not listed

  others : (u : ℕ) → 1 ≤ u → least ≡ share u (length H) → All (λ c. is_listed c.val ≡ false → sum c.counts < u) table
  others u some e = all_of_members (λ (c : Counted). is_listed c.val ≡ false → sum c.counts < u) table (λ c m. let v = member_map row V c m in subst (λ (d : Counted). is_listed d.val ≡ false → sum d.counts < u) (sym v.2) (below v.0 v.1))
    where
      below_at : (v : Val) → is_listed v ≡ false → (i : ℕ) → Member i H → count_on v i < share u (length H)
      below_at v off i m = go (nat_le least (count_on v i)) refl
        where
          go : (b : Bool) → nat_le least (count_on v i) ≡ b → count_on v i < share u (length H)
          go true h =
              let enough : 1 ≤ least = omega (arith, e, share_of_some u (length H) some (has_some H i m)) in
              let here = from_listed v i enough (leb-true least (count_on v i) h) in
              let by_it = list_any-append (same_val v) (offered t no_nodes Y i) (values_from t least Y i) ∙ or_right (has_val v (offered t no_nodes Y i)) (has_val v (values_from t least Y i)) here in
              absurd (false≢true (sym off ∙ listed_at v ∙ any_by_member (λ j. has_val v (by j)) H i m by_it))
          go false h = omega (arith, leb-false least (count_on v i) h, e)

      below : (v : Val) → Member v V → is_listed v ≡ false → sum (map (count_on v) H) < u
      below v m off =
          shares_are_enough u (map (count_on v) H) (omega (arith, row_sum v, found v m))
          (all_of_members (λ n. n < share u (length (map (count_on v) H))) (map (count_on v) H)
          (λ n k. let i = member_map (count_on v) H n k in
          subst (λ x. x < share u (length (map (count_on v) H))) (sym i.2) (subst (λ l. count_on v i.0 < share u l) (sym (length-map H (count_on v))) (below_at v off i.0 i.1))))

  -- ---- what is printed

  page_is : (limit j : ℕ) → t.limit ≡ Some limit → t.offset + limit ≡ suc j → printed_by count_first (record t { limit = Some limit }) (map counted_entry table) ≡ printed_by count_first (record t { limit = Some limit }) (map counted_entry (listed_of is_listed table))
  page_is limit j limited bound =
      let u = count_at E j in
      let looked_for : top_bound t ≡ suc j = ap (λ l. t.offset + unwrap_or l 0) limited ∙ bound in
      let least_is : least ≡ share u (length H) = ap (λ k. least_count (length H) k E) looked_for in
      let enough : (u ≡ 1) ⊎ (t.offset + limit ≤ count_by (λ c. nat_le u (sum c.counts)) (listed_of is_listed table)) = elim (ranks_are_reached E j) [
        | inl one ↦ inl one
        | inr more ↦ inr (reached u (t.offset + limit) (omega (arith, more, bound)))
      ] in
      ap (map (λ e. e.val)) (certified_are_enough is_listed u table t.offset limit t.mincount counted (record { reached = enough; others = others u (count_at_some j) least_is }))

  listed_rows_are : map counted_entry (listed_of is_listed table) ≡ entries_listed r W t H D
  listed_rows_are = ap (map counted_entry) (filter-map (λ c. is_listed c.val) row V ∙ ap (map row) listed_is) ∙ rows_are L

  printed_listed : (limit : ℕ) → t.sort ≡ count_first → t.limit ≡ Some limit → printed_values t (entries_listed r W t H D) ≡ printed_values t (entries_in t [] Y)
  printed_listed limit sort limited =
      let seen = λ (V : List Entry). let e : printed_values t V ≡ printed_by count_first (record t { limit = Some limit }) V = (λ i. map (λ (e : Entry). e.val) (page (sort i) t.offset (limited i) (filter (λ e. nat_le t.mincount e.stats.count) V))) in e in
      seen (entries_listed r W t H D) ∙ go (t.offset + limit) refl ∙ sym (seen (entries_in t [] Y))
    where
      go : (k : ℕ) → t.offset + limit ≡ k → printed_by count_first (record t { limit = Some limit }) (entries_listed r W t H D) ≡ printed_by count_first (record t { limit = Some limit }) (entries_in t [] Y)
      go zero e =
          let none : limit ≡ 0 = omega (arith, e) in
          ap (λ n. printed_by count_first (record t { limit = Some n }) (entries_listed r W t H D)) none ∙ sym (ap (λ n. printed_by count_first (record t { limit = Some n }) (entries_in t [] Y)) none)
      go (suc j) e =
          ap (printed_by count_first (record t { limit = Some limit })) (sym listed_rows_are) ∙ sym (page_is limit j limited e) ∙ ap (printed_by count_first (record t { limit = Some limit })) (rows_are V)

pub tops_are_listed : TopsAreListed
tops_are_listed r W t limit H D sort limited different on = printed_listed r W t H D different on limit sort limited
