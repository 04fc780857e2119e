-- The certificate of top values.
use Rattle.std.specs.Prelude.{◌≡◌, ℕ, suc, ◌+◌, ◌-◌, ◌*◌, ◌<◌, ◌≤◌, List, [], ◌∷◌, map, length, sum, Bool, true, false, cond, ◌&&◌, nat_le, ◌==◌, All, count_by}
use Rattle.std.specs.List.{filter}
use Rattle.std.specs.Ordering.{nat_cmp, is_lt, ordering_reverse, ordering_then}
use Rattle.std.specs.declared.cmp.Ordering.TheVariants.{Less, Greater}
use Rattle.std.proofs.Common.{refl, ap, sym, ◌∙◌, subst, arith, ◌⊎◌, inl, inr}
use Rattle.std.proofs.Math.Nat.{mul-div-le}
use Rattle.std.proofs.lemmas.Bool.{false≢true, le-leb, leb-true, eqb-true, and_parts, and_from}
use Rattle.std.proofs.lemmas.Bool.Decides.{nat_tests}
use Rattle.std.proofs.lemmas.List.Elements.{All-head, All-tail}
use Rattle.std.proofs.lemmas.List.Sums.{sum_by-cons}
use Rattle.fc_spec.specs.documents.Val.{Val, val_cmp}
use Rattle.fc_spec.specs.requests.Ranks.{Entry, is_ahead, rank, of_ranks}
use Rattle.fc_spec.specs.requests.Least.{count_first, Counted, counted_entry, count_or_one, share}
use Rattle.fc_spec.specs.laws.CertificateLaw.{listed_of, IsCertified, CertifiedAreEnough, SharesAreEnough, RanksAreReached}
use Rattle.fc_spec.proofs.words.Counting.{count_by-cons}
use Rattle.fc_spec.proofs.words.Members.{Member, filter_member}
use Rattle.fc_spec.proofs.words.AlikeLists.{member_map}
use Rattle.fc_spec.proofs.words.Ranked.{place, not_before_itself}
use Rattle.fc_spec.proofs.words.Rests.{by_places_of_kept}
use Rattle.fc_spec.proofs.requests.EntryOrder.{is_ahead_one_way}
use Rattle.fc_spec.proofs.requests.RestEntries.{is_ahead_through}
use Rattle.fc_spec.proofs.requests.Locality.{filter-filter}

-- ---- counts by two tests

-- each member that passes one test passes another
pub count_by-weaker : {X : Type 0} (p q : X → Bool) (xs : List X) → ((x : X) → Member x xs → p x ≡ true → q x ≡ true) → count_by p xs ≤ count_by q xs
count_by-weaker p q [] h = omega arith
count_by-weaker p q (x ∷ xs) h = omega (arith, count_by-cons p x xs, count_by-cons q x xs, go (p x) (q x) (h x (inl refl)), count_by-weaker p q xs (λ y m. h y (inr m)))
  where
    go : (a b : Bool) → (a ≡ true → b ≡ true) → cond a 1 0 ≤ cond b 1 0
    go false b h = omega arith
    go true true h = omega arith
    go true false h = absurd (false≢true (h refl))

-- what a member adds to a count
abbrev weight : Bool → ℕ
weight b = cond b 1 0

one_of : (b : Bool) → b ≡ true → weight b ≡ 1
one_of true h = refl
one_of false h = absurd (false≢true h)

none_of : (b : Bool) → b ≡ false → weight b ≡ 0
none_of true h = absurd (false≢true (sym h))
none_of false h = refl

-- and one member passes the other alone
count_by-one_more : {X : Type 0} (p q : X → Bool) (xs : List X) (e : X) → ((x : X) → p x ≡ true → q x ≡ true) → Member e xs → p e ≡ false → q e ≡ true → suc (count_by p xs) ≤ count_by q xs
count_by-one_more p q [] e h m n y = absurd m
count_by-one_more p q (x ∷ xs) e h (inl same) n y =
    omega (arith, count_by-cons p x xs, count_by-cons q x xs, none_of (p x) (ap p (sym same) ∙ n), one_of (q x) (ap q (sym same) ∙ y), count_by-weaker p q xs (λ z m. h z))
count_by-one_more p q (x ∷ xs) e h (inr m) n y =
    omega (arith, count_by-cons p x xs, count_by-cons q x xs, go (p x) (q x) (h x), count_by-one_more p q xs e h m n y)
  where
    go : (a b : Bool) → (a ≡ true → b ≡ true) → cond a 1 0 ≤ cond b 1 0
    go false b h = omega arith
    go true true h = omega arith
    go true false h = absurd (false≢true (h refl))

-- of images, and of a filter
pub count_by-map : {X Y : Type 0} (p : Y → Bool) (f : X → Y) (xs : List X) → count_by p (map f xs) ≡ count_by (λ x. p (f x)) xs
count_by-map p f [] = refl
count_by-map p f (x ∷ xs) = omega (arith, count_by-cons p (f x) (map f xs), count_by-cons (λ y. p (f y)) x xs, count_by-map p f xs)

pub count_by-filter : {X : Type 0} (p q : X → Bool) (xs : List X) → count_by p (filter q xs) ≡ count_by (λ x. q x && p x) xs
count_by-filter p q [] = refl
count_by-filter p q (x ∷ xs) = go (q x) refl (count_by-filter p q xs)
  where
    go : (b : Bool) → q x ≡ b → count_by p (filter q xs) ≡ count_by (λ y. q y && p y) xs → count_by p (cond b (x ∷ filter q xs) (filter q xs)) ≡ count_by (λ y. q y && p y) (x ∷ xs)
    go true e rest =
        let here : weight (q x && p x) ≡ weight (p x) = ap (λ c. weight (c && p x)) e in
        omega (arith, count_by-cons p x (filter q xs), count_by-cons (λ y. q y && p y) x xs, rest, here)
    go false e rest =
        let here : weight (q x && p x) ≡ 0 = ap (λ c. weight (c && p x)) e in
        omega (arith, count_by-cons (λ y. q y && p y) x xs, rest, here)

-- ---- what stands ahead by its count

-- a greater count stands ahead
greater_first : (a b : ℕ) → b < a → nat_cmp a b ≡ Greater
greater_first a b h = grind (arith, nat_tests)

pub ahead_by_count : (a b : Entry) → b.stats.count < a.stats.count → is_ahead count_first a b ≡ true
ahead_by_count a b h = ap (λ o. is_lt (ordering_then (ordering_reverse o) (val_cmp a.val b.val))) (greater_first a.stats.count b.stats.count h)

-- what stands ahead has at least as great a count
less_reversed : (a b : ℕ) → a < b → nat_cmp a b ≡ Less
less_reversed a b h = grind (arith, nat_tests)

pub count_of_ahead : (a b : Entry) → is_ahead count_first a b ≡ true → b.stats.count ≤ a.stats.count
count_of_ahead a b h = go (nat_le b.stats.count a.stats.count) refl
  where
    go : (c : Bool) → nat_le b.stats.count a.stats.count ≡ c → b.stats.count ≤ a.stats.count
    go true e = leb-true b.stats.count a.stats.count e
    go false e = absurd (false≢true (sym (ap (λ o. is_lt (ordering_then (ordering_reverse o) (val_cmp a.val b.val))) (less_reversed a.stats.count b.stats.count (grind (arith, nat_tests)))) ∙ h))

-- ---- a count of some rank is reached

pub ranks_are_reached : RanksAreReached
ranks_are_reached V k = go (filter (λ e. rank count_first V e == k) V) (λ e m. filter_member (λ e. rank count_first V e == k) V e m)
  where
    go : (F : List Entry) → ((e : Entry) → Member e F → Member e V × ((rank count_first V e == k) ≡ true)) → (count_or_one F ≡ 1) ⊎ (suc k ≤ count_by (λ e. nat_le (count_or_one F) e.stats.count) V)
    go [] h = inl refl
    go (e ∷ es) h =
        let r = h e (inl refl) in
        let at = eqb-true (rank count_first V e) k r.1 in
        let more = count_by-one_more (λ w. is_ahead count_first w e) (λ w. nat_le e.stats.count w.stats.count) V e
        (λ w a. le-leb e.stats.count w.stats.count (count_of_ahead w e a)) r.0
        (not_before_itself (is_ahead count_first) (is_ahead_one_way count_first) e) (le-leb e.stats.count e.stats.count (omega arith)) in
        inr (omega (arith, at, more))

-- ---- counts below a share

sum_below : (s : ℕ) (counts : List ℕ) → All (λ n. n < s) counts → sum counts + length counts ≤ length counts * s
sum_below s [] h = omega arith
sum_below s (n ∷ ns) h =
    let P : ℕ → Type 0 = λ x. x < s in
    let here : n < s = All-head P n ns h in
    let rest = sum_below s ns (All-tail P n ns h) in
    omega (arith, sum_by-cons (λ x. x) n ns, here, rest)

pub shares_are_enough : SharesAreEnough
shares_are_enough t [] some h = absurd (omega arith)
shares_are_enough t (n ∷ ns) some h =
    let m = length (n ∷ ns) in
    omega (arith, sum_below (share t m) (n ∷ ns) h, mul-div-le (t + (m - 1)) m)

-- ---- what is certified is enough

map-listed : (listed : Val → Bool) (table : List Counted) → map counted_entry (listed_of listed table) ≡ filter (λ e. listed e.val) (map counted_entry table)
map-listed listed [] = refl
map-listed listed (c ∷ cs) = go (listed c.val) (map-listed listed cs)
  where
    go : (b : Bool) → map counted_entry (listed_of listed cs) ≡ filter (λ e. listed e.val) (map counted_entry cs)
        → map counted_entry (cond b (c ∷ listed_of listed cs) (listed_of listed cs)) ≡ cond b (counted_entry c ∷ filter (λ e. listed e.val) (map counted_entry cs)) (filter (λ e. listed e.val) (map counted_entry cs))
    go true e = ap (λ es. counted_entry c ∷ es) e
    go false e = e

-- what holds of each member
pub of_member : {X : Type 0} (P : X → Type 0) (xs : List X) (x : X) → All P xs → Member x xs → P x
of_member P [] x h m = absurd m
of_member P (y ∷ ys) x h (inl e) = subst P (sym e) (All-head P y ys h)
of_member P (y ∷ ys) x h (inr m) = of_member P ys x (All-tail P y ys h) m

module _ (listed : Val → Bool) (t : ℕ) (table : List Counted) (k mincount : ℕ) (counted : All (λ c. 1 ≤ sum c.counts) table) (certified : IsCertified listed k t table) where
  abbrev all_entries : List Entry
  all_entries = filter (λ e. nat_le mincount e.stats.count) (map counted_entry table)

  abbrev keep : Entry → Bool
  keep e = listed e.val

  -- what is not listed stands behind the listed values that reach the count
  stands_behind : (e : Entry) → Member e all_entries → keep e ≡ false → k ≤ place (is_ahead count_first) (filter keep all_entries) e
  stands_behind e m off =
      let r = filter_member (λ e. nat_le mincount e.stats.count) (map counted_entry table) e m in
      let c = member_map counted_entry table e r.0 in
      let val : listed (c.0).val ≡ false = ap keep (sym c.2) ∙ off in
      let below : sum (c.0).counts < t = of_member (λ c. listed c.val ≡ false → sum c.counts < t) table c.0 certified.others c.1 val in
      let some : 1 ≤ sum (c.0).counts = of_member (λ c. 1 ≤ sum c.counts) table c.0 counted c.1 in
      let count : e.stats.count ≡ sum (c.0).counts = ap (λ (e : Entry). e.stats.count) c.2 in
      let enough : mincount ≤ e.stats.count = leb-true mincount e.stats.count r.1 in
      elim certified.reached [
        | inl one ↦ absurd (omega arith)
        | inr reached ↦
            let listed_ones = count_by-filter (λ c. nat_le t (sum c.counts)) (λ c. listed c.val) table in
            let ahead = count_by-filter (λ w. is_ahead count_first w e) keep all_entries in
            let kept = count_by-filter (λ w. keep w && is_ahead count_first w e) (λ w. nat_le mincount w.stats.count) (map counted_entry table) in
            let mapped = count_by-map (λ w. nat_le mincount w.stats.count && (keep w && is_ahead count_first w e)) counted_entry table in
            let fewer = count_by-weaker (λ c. listed c.val && nat_le t (sum c.counts)) (λ c. nat_le mincount (sum c.counts) && (listed c.val && is_ahead count_first (counted_entry c) e)) table
            (λ d n h. let parts = and_parts (listed d.val) (nat_le t (sum d.counts)) h in
            let far : t ≤ sum d.counts = leb-true t (sum d.counts) parts.1 in
            and_from (nat_le mincount (sum d.counts)) (listed d.val && is_ahead count_first (counted_entry d) e) (le-leb mincount (sum d.counts) (omega arith))
            (and_from (listed d.val) (is_ahead count_first (counted_entry d) e) parts.0 (ahead_by_count (counted_entry d) e (omega arith)))) in
            omega (arith, reached, listed_ones, ahead, kept, mapped, fewer)
      ]

  pages_agree : (offset limit : ℕ) → offset + limit ≡ k → of_ranks count_first all_entries offset limit ≡ of_ranks count_first (filter keep all_entries) offset limit
  pages_agree offset limit e = by_places_of_kept (is_ahead count_first) (is_ahead_through count_first) k keep all_entries stands_behind limit offset (omega arith)

pub certified_are_enough : CertifiedAreEnough
certified_are_enough listed t table offset limit mincount counted certified =
    pages_agree listed t table (offset + limit) mincount counted certified offset limit refl
    ∙ ap (λ es. of_ranks count_first es offset limit)
    (filter-filter (λ e. listed e.val) (λ e. nat_le mincount e.stats.count) (map counted_entry table) ∙ ap (filter (λ e. nat_le mincount e.stats.count)) (sym (map-listed listed table)))
