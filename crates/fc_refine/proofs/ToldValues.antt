-- What shards told of a value: its bucket in each part, and the statistics of all.
use Rattle.std.proofs.Common.{◌≡◌, ◌⊎◌, ℕ, zero, suc, ◌+◌, ◌<◌, ◌≤◌, ◌^◌, List, [], ◌∷◌, ◌++◌, map, length, Bool, true, false, cond, ◌||◌, not, Option, Some, None, is_some, refl, sym, ap, ◌∙◌, subst, arith, inl, inr, zero-add}
use Rattle.std.specs.Prelude.{All, ℤ, pos, unsigned_abs, ◌+ℤ◌, sum_by, slice_index_or}
use Rattle.std.specs.Int.{w64}
use Rattle.std.specs.Cmp.{Equal-is}
use Rattle.std.specs.List.{filter, flat_map, enumerate_from}
use Rattle.std.specs.Ordering.{is_eq}
use Rattle.std.specs.declared.cmp.Ordering.TheVariants.{Less, Equal}
use Rattle.std.proofs.lemmas.Bool.{and_parts, ne_eqb}
use Rattle.std.proofs.lemmas.Int.{ints, fits_signed_from_abs}
use Rattle.std.proofs.lemmas.List.Elements.{All-head, All-tail, All-cons}
use Rattle.std.proofs.lemmas.List.Folds.{list_any-append}
use Rattle.std.proofs.lemmas.List.Sums.{sum_by-cons}
use Rattle.fc_spec.specs.documents.Val.{Val, same_val, has_val}
use Rattle.fc_spec.specs.requests.Buckets.{Key, value, missing, gap, before, between, after, whole}
use Rattle.fc_spec.specs.requests.Combining.{combined, combined_values}
use Rattle.fc_spec.specs.requests.Request.{StatKind, sum, min, max, countvals, Stat, Kind, Nodes, no_nodes, stats_of}
use Rattle.fc_spec.specs.requests.Shape.{holds_exclusion}
use Rattle.fc_spec.specs.requests.Request as request
use Rattle.fc_spec.specs.requests.Statistics.{StatValue, number, extreme, Stats, amount, value_over, stats_over, combined_value}
use Rattle.fc_spec.specs.replies.Reading.{stats_on}
use Rattle.fc_spec.specs.messages.KeyOrder.{key_cmp, same_key}
use Rattle.fc_spec.specs.messages.Message.{Partials, no_partials, partial}
use Rattle.fc_spec.specs.messages.MessageShape.{buckets_fit, bucket_fits, key_ascends, count_fits, values_fit, value_fits}
use Rattle.fc_spec.specs.requests.Buckets as buckets
use Rattle.fc_spec.specs.messages.Held.{HeldBucket, listed_values}
use Rattle.fc_spec.specs.messages.Merged.{held_count, held_value}
use Rattle.fc_spec.specs.words.Lists.{is_empty}
use Rattle.fc_spec.proofs.words.Orderings.{Less-from_is_lt}
use Rattle.fc_partial.specs.Adding.{HasShape}
use Rattle.fc_partial.specs.KeyLaws.{key_cmp_total}
use Rattle.fc_partial.specs.Numbers.{NumbersAddUp}
use Rattle.fc_refine.specs.Listings.{Listing, is_key_of_value, listed_in, listed_by, all_of, AddUpInTurn, CanCombine}
use Rattle.fc_refine.specs.Parts.{Part, shards_of, bucket_of, over_told, count_told, value_told, size_of, held_size, SumsFit}

-- what a shard lists where its bucket of the value is this
abbrev pub listing_of : ℕ → Option HeldBucket → List Listing
listing_of i None = []
listing_of i (Some b) = (i, b.stats) ∷ []

module _ (v : Val) where
  behind_key : (a b c : Key) → (key_cmp a b ≡ Less) ⊎ (key_cmp a b ≡ Equal) → key_cmp b c ≡ Less → key_cmp a c ≡ Less
  behind_key a b c (inl less) h = key_cmp_total.trans a b c less h
  behind_key a b c (inr same) h = key_cmp_total.congr a b c same ∙ h

  not_value : (k : Key) → key_cmp (value v) k ≡ Less → is_key_of_value v k ≡ false
  not_value (value w) h = ap is_eq h
  not_value missing h = refl
  not_value (gap i) h = refl
  not_value before h = refl
  not_value between h = refl
  not_value after h = refl
  not_value whole h = refl

  same_test : (k : Key) → same_key (value v) k ≡ is_key_of_value v k
  same_test (value w) = refl
  same_test missing = refl
  same_test (gap i) = refl
  same_test before = refl
  same_test between = refl
  same_test after = refl
  same_test whole = refl

  module _ (kind : Kind) (inner : Nodes) where
    abbrev asked_of : List Stat
    asked_of = stats_of inner

    head_ascends : (k : Key) (stats : Stats) (last : Key) → bucket_fits kind inner (Some last) k stats ≡ true → key_cmp last k ≡ Less
    head_ascends k stats last h =
        let one = (and_parts _ (values_fit asked_of stats.values) h).0 in
        let two = (and_parts _ (count_fits (holds_exclusion inner) k stats) one).0 in
        Less-from_is_lt (key_cmp last k) (and_parts (key_ascends (Some last) k) (buckets.is_key_of kind k) two).0

    -- every key behind stands after the value
    none_behind : (i : ℕ) (ps : Partials) (last : Key) → (key_cmp (value v) last ≡ Less) ⊎ (key_cmp (value v) last ≡ Equal) → buckets_fit kind inner ps (Some last) ≡ true → listed_in v i ps ≡ []
    none_behind i no_partials last h fit = refl
    none_behind i (partial k stats rows rest) last h fit =
        let parts = and_parts (bucket_fits kind inner (Some last) k stats) (buckets_fit kind inner rest (Some k)) fit in
        let less = behind_key (value v) last k h (head_ascends k stats last parts.0) in
        ap (λ b. cond b ((i, stats) ∷ listed_in v i rest) (listed_in v i rest)) (not_value k less) ∙ none_behind i rest k (inl less) parts.1

    -- a value is listed once, with the statistics of its bucket
    found_in : (i : ℕ) (ps : Partials) (last : Option Key) → buckets_fit kind inner ps last ≡ true → listed_in v i ps ≡ listing_of i (bucket_of (value v) ps)
    found_in i no_partials last fit = refl
    found_in i (partial k stats rows rest) last fit =
        let here : Option HeldBucket = Some (record { stats = stats; nodes = no_nodes; rows = rows }) in
        go (is_key_of_value v k) refl (found_in i rest (Some k) later) ∙ ap (λ b. listing_of i (cond b here (bucket_of (value v) rest))) (sym (same_test k))
      where
        later : buckets_fit kind inner rest (Some k) ≡ true
        later = (and_parts (bucket_fits kind inner last k stats) (buckets_fit kind inner rest (Some k)) fit).1

        go : (b : Bool) → is_key_of_value v k ≡ b → listed_in v i rest ≡ listing_of i (bucket_of (value v) rest) → cond b ((i, stats) ∷ listed_in v i rest) (listed_in v i rest)
            ≡ listing_of i (cond b (Some (record { stats = stats; nodes = no_nodes; rows = rows })) (bucket_of (value v) rest))
        go true e ih = ap (λ l. (i, stats) ∷ l) (none_behind i rest k (inr ((Equal-is (key_cmp (value v) k)).0 (same_test k ∙ e))) later)
        go false e ih = ih

    -- which has the shape of the statistics
    found_shape : (ps : Partials) (last : Option Key) → buckets_fit kind inner ps last ≡ true → (b : HeldBucket) → bucket_of (value v) ps ≡ Some b → values_fit asked_of b.stats.values ≡ true
    found_shape no_partials last fit b e = absurd (cc e)
    found_shape (partial k stats rows rest) last fit b e = go (same_key (value v) k) e (λ h. found_shape rest (Some k) parts.1 b h)
      where
        parts : (bucket_fits kind inner last k stats ≡ true) × (buckets_fit kind inner rest (Some k) ≡ true)
        parts = and_parts (bucket_fits kind inner last k stats) (buckets_fit kind inner rest (Some k)) fit

        stats_in : Option HeldBucket → List StatValue
        stats_in None = []
        stats_in (Some c) = c.stats.values

        go : (t : Bool) → cond t (Some (record { stats = stats; nodes = no_nodes; rows = rows })) (bucket_of (value v) rest) ≡ Some b → (bucket_of (value v) rest ≡ Some b → values_fit asked_of b.stats.values ≡ true) → values_fit asked_of b.stats.values ≡ true
        go true h ih = subst (λ vs. values_fit asked_of vs ≡ true) (ap stats_in h) (and_parts _ (values_fit asked_of stats.values) parts.0).1
        go false h ih = ih h

  -- a value is among those listed where it has a bucket
  has_in : (ps : Partials) → has_val v (listed_values ps) ≡ is_some (bucket_of (value v) ps)
  has_in no_partials = refl
  has_in (partial k stats rows rest) = go k (has_in rest)
    where
      here : Option HeldBucket
      here = Some (record { stats = stats; nodes = no_nodes; rows = rows })

      either : (b : Bool) → has_val v (listed_values rest) ≡ is_some (bucket_of (value v) rest) → (b || has_val v (listed_values rest)) ≡ is_some (cond b here (bucket_of (value v) rest))
      either true h = refl
      either false h = h

      go : (k : Key) → has_val v (listed_values rest) ≡ is_some (bucket_of (value v) rest) → has_val v (listed_values (partial k stats rows rest)) ≡ is_some (bucket_of (value v) (partial k stats rows rest))
      go (value w) h = either (same_val v w) h
      go missing h = h
      go (gap i) h = h
      go before h = h
      go between h = h
      go after h = h
      go whole h = h

-- ---- part by part

-- the statistics of each told value fit, and each shard told its part
abbrev pub FitParts : Kind → Nodes → List Part → Type 0
FitParts kind inner ps = All (λ p. buckets_fit kind inner p.buckets None ≡ true) ps

abbrev pub AreTold : (ℕ → Partials) → List Part → Type 0
AreTold told ps = All (λ p. told p.shard ≡ p.buckets) ps

module _ (kind : Kind) (inner : Nodes) (told : ℕ → Partials) (v : Val) where
  abbrev ss : List Stat
  ss = stats_of inner

  fit_head : (p : Part) (ps : List Part) → FitParts kind inner (p ∷ ps) → buckets_fit kind inner p.buckets None ≡ true
  fit_head p ps h = All-head (λ (q : Part). buckets_fit kind inner q.buckets None ≡ true) p ps h

  fit_tail : (p : Part) (ps : List Part) → FitParts kind inner (p ∷ ps) → FitParts kind inner ps
  fit_tail p ps h = All-tail (λ (q : Part). buckets_fit kind inner q.buckets None ≡ true) p ps h

  told_head : (p : Part) (ps : List Part) → AreTold told (p ∷ ps) → told p.shard ≡ p.buckets
  told_head p ps h = All-head (λ (q : Part). told q.shard ≡ q.buckets) p ps h

  told_tail : (p : Part) (ps : List Part) → AreTold told (p ∷ ps) → AreTold told ps
  told_tail p ps h = All-tail (λ (q : Part). told q.shard ≡ q.buckets) p ps h

  -- the shards that list the value
  pub offering_is : (ps : List Part) → FitParts kind inner ps → AreTold told ps → filter (λ i. has_val v (listed_values (told i))) (shards_of ps) ≡ map (λ (l : Listing). l.0) (listed_by v ps)
  offering_is [] fit are = refl
  offering_is (p ∷ ps) fit are =
      ap (λ b. cond b (p.shard ∷ rest) rest) (ap (λ bs. has_val v (listed_values bs)) (told_head p ps are) ∙ has_in v p.buckets)
      ∙ go (bucket_of (value v) p.buckets) (offering_is ps (fit_tail p ps fit) (told_tail p ps are))
      ∙ sym (ap (λ l. map (λ (l : Listing). l.0) (l ++ listed_by v ps)) (found_in v kind inner p.shard p.buckets None (fit_head p ps fit)))
    where
      rest : List ℕ
      rest = filter (λ i. has_val v (listed_values (told i))) (shards_of ps)

      go : (o : Option HeldBucket) → rest ≡ map (λ (l : Listing). l.0) (listed_by v ps) → cond (is_some o) (p.shard ∷ rest) rest ≡ map (λ (l : Listing). l.0) (listing_of p.shard o ++ listed_by v ps)
      go None later = later
      go (Some b) later = ap (λ l. p.shard ∷ l) later

  -- some shard lists it where something is listed
  pub any_is : (ps : List Part) → FitParts kind inner ps → AreTold told ps → has_val v (flat_map (λ i. listed_values (told i)) (shards_of ps)) ≡ not (is_empty (listed_by v ps))
  any_is [] fit are = refl
  any_is (p ∷ ps) fit are =
      list_any-append (same_val v) (listed_values (told p.shard)) (flat_map (λ i. listed_values (told i)) (shards_of ps))
      ∙ ap (λ b. b || more) (ap (λ bs. has_val v (listed_values bs)) (told_head p ps are) ∙ has_in v p.buckets)
      ∙ go (bucket_of (value v) p.buckets) (any_is ps (fit_tail p ps fit) (told_tail p ps are))
      ∙ sym (ap (λ l. not (is_empty (l ++ listed_by v ps))) (found_in v kind inner p.shard p.buckets None (fit_head p ps fit)))
    where
      more : Bool
      more = has_val v (flat_map (λ i. listed_values (told i)) (shards_of ps))

      go : (o : Option HeldBucket) → more ≡ not (is_empty (listed_by v ps)) → (is_some o || more) ≡ not (is_empty (listing_of p.shard o ++ listed_by v ps))
      go None ih = ih
      go (Some b) ih = sym (ap not (ne_eqb (suc (length (listed_by v ps))) 0 (λ e. omega arith)))

  -- one more list of values, statistic by statistic
  one_more : (ss : List Stat) (m : ℕ) (get : ℕ → StatValue → StatValue) (vs : List StatValue) → ((j : ℕ) (d : StatValue) → get (m + j) d ≡ slice_index_or vs j d) → values_fit ss vs ≡ true
      → (g : ℕ × Stat → StatValue) → map (λ s. combined_value s.1.of (get s.0 (value_over s.1 [])) (g s)) (enumerate_from m ss) ≡ combined_values ss vs (map g (enumerate_from m ss))
  one_more [] m get [] at fit g = refl
  one_more [] m get (x ∷ vs) at fit g = absurd (cc fit)
  one_more (s ∷ ss) m get [] at fit g = absurd (cc fit)
  one_more (s ∷ ss) m get (x ∷ vs) at fit g =
      let here : get m (value_over s []) ≡ x = ap (λ k. get k (value_over s [])) (let e : m ≡ m + 0 = omega arith in e) ∙ at 0 (value_over s []) in
      let further : (j : ℕ) (d : StatValue) → get (m + 1 + j) d ≡ slice_index_or vs j d = λ j d. ap (λ k. get k d) (let e : m + 1 + j ≡ m + suc j = omega arith in e) ∙ at (suc j) d in
      rw (here, one_more ss (m + 1) get vs further (and_parts (value_fits s x) (values_fit ss vs) fit).1 g) refl

  of_no_shard : (ss : List Stat) (m : ℕ) → map (λ (s : ℕ × Stat). value_over s.1 []) (enumerate_from m ss) ≡ map (λ s. value_over s []) ss
  of_no_shard [] m = refl
  of_no_shard (s ∷ ss) m = ap (λ l. value_over s [] ∷ l) (of_no_shard ss (m + 1))

  -- the statistics over the shards that list it are those of all that is listed
  pub stats_are : (ps : List Part) → FitParts kind inner ps → AreTold told ps → stats_on (over_told told) ss (map (λ (l : Listing). l.0) (listed_by v ps)) (value v) ≡ all_of ss (listed_by v ps)
  stats_are [] fit are = rw (of_no_shard ss 0) refl
  stats_are (p ∷ ps) fit are =
      ap (λ l. stats_on (over_told told) ss (map (λ (l : Listing). l.0) (l ++ listed_by v ps)) (value v)) listed
      ∙ go (bucket_of (value v) p.buckets) refl (stats_are ps (fit_tail p ps fit) (told_tail p ps are))
      ∙ sym (ap (λ l. all_of ss (l ++ listed_by v ps)) listed)
    where
      listed : listed_in v p.shard p.buckets ≡ listing_of p.shard (bucket_of (value v) p.buckets)
      listed = found_in v kind inner p.shard p.buckets None (fit_head p ps fit)

      H : List ℕ
      H = map (λ (l : Listing). l.0) (listed_by v ps)

      with_first : Option HeldBucket → Stats
      with_first o = record {
        count = held_count o + count_told told H (value v);
        values = map (λ (s : ℕ × Stat). combined_value s.1.of (held_value s.0 s.1 o) (value_told told s.0 s.1 H (value v))) (enumerate_from 0 ss);
      }

      go : (o : Option HeldBucket) → bucket_of (value v) p.buckets ≡ o → stats_on (over_told told) ss (map (λ (l : Listing). l.0) (listed_by v ps)) (value v) ≡ all_of ss (listed_by v ps)
          → stats_on (over_told told) ss (map (λ (l : Listing). l.0) (listing_of p.shard o ++ listed_by v ps)) (value v) ≡ all_of ss (listing_of p.shard o ++ listed_by v ps)
      go None e later = later
      go (Some b) e later =
          let there : bucket_of (value v) (told p.shard) ≡ Some b = ap (bucket_of (value v)) (told_head p ps are) ∙ e in
          let values = one_more ss 0 (λ m d. slice_index_or b.stats.values m d) b.stats.values (λ j d. ap (λ k. slice_index_or b.stats.values k d) (let z : 0 + j ≡ j = omega arith in z))
          (found_shape v kind inner p.buckets None (fit_head p ps fit) b e) (λ s. value_told told s.0 s.1 H (value v)) in
          ap with_first there ∙ ap (λ vs. record { count = b.stats.count + count_told told H (value v); values = vs }) values ∙ ap (combined ss b.stats) later

  -- ---- the sums fit

  abbrev pub size_at : ℕ → List StatValue → ℕ
  size_at m vs = size_of (slice_index_or vs m (number (pos 0)))

  counts_are : (ps : List Part) → FitParts kind inner ps → sum_by (λ (p : Part). held_count (bucket_of (value v) p.buckets)) ps ≡ sum_by (λ (l : Listing). l.1.count) (listed_by v ps)
  counts_are [] fit = refl
  counts_are (p ∷ ps) fit =
      sum_by-cons (λ (p : Part). held_count (bucket_of (value v) p.buckets)) p ps ∙ ap (λ n. held_count (bucket_of (value v) p.buckets) + n) (counts_are ps (fit_tail p ps fit)) ∙ go (bucket_of (value v) p.buckets)
      ∙ sym (ap (λ l. sum_by (λ (l : Listing). l.1.count) (l ++ listed_by v ps)) (found_in v kind inner p.shard p.buckets None (fit_head p ps fit)))
    where
      go : (o : Option HeldBucket) → held_count o + sum_by (λ (l : Listing). l.1.count) (listed_by v ps) ≡ sum_by (λ (l : Listing). l.1.count) (listing_of p.shard o ++ listed_by v ps)
      go None = zero-add (sum_by (λ (l : Listing). l.1.count) (listed_by v ps))
      go (Some b) = sym (sum_by-cons (λ (l : Listing). l.1.count) (p.shard, b.stats) (listed_by v ps))

  sizes_are : (m : ℕ) (ps : List Part) → FitParts kind inner ps → sum_by (λ (p : Part). held_size m (bucket_of (value v) p.buckets)) ps ≡ sum_by (λ (l : Listing). size_at m l.1.values) (listed_by v ps)
  sizes_are m [] fit = refl
  sizes_are m (p ∷ ps) fit =
      sum_by-cons (λ (p : Part). held_size m (bucket_of (value v) p.buckets)) p ps ∙ ap (λ n. held_size m (bucket_of (value v) p.buckets) + n) (sizes_are m ps (fit_tail p ps fit)) ∙ go (bucket_of (value v) p.buckets)
      ∙ sym (ap (λ l. sum_by (λ (l : Listing). size_at m l.1.values) (l ++ listed_by v ps)) (found_in v kind inner p.shard p.buckets None (fit_head p ps fit)))
    where
      go : (o : Option HeldBucket) → held_size m o + sum_by (λ (l : Listing). size_at m l.1.values) (listed_by v ps) ≡ sum_by (λ (l : Listing). size_at m l.1.values) (listing_of p.shard o ++ listed_by v ps)
      go None = zero-add (sum_by (λ (l : Listing). size_at m l.1.values) (listed_by v ps))
      go (Some b) = sym (sum_by-cons (λ (l : Listing). size_at m l.1.values) (p.shard, b.stats) (listed_by v ps))

  abs_add : (a b : ℤ) → unsigned_abs (a +ℤ b) ≤ unsigned_abs a + unsigned_abs b
  abs_add a b = omega (arith, ints)

  size_amount : (x : StatValue) → unsigned_abs (amount x) ≡ size_of x
  size_amount (number n) = refl
  size_amount (extreme o) = refl

  size_sum : (a b : StatValue) → size_of (number (amount a +ℤ amount b)) ≤ size_of a + size_of b
  size_sum a b = let e = abs_add (amount a) (amount b) in let f = size_amount a in let g = size_amount b in omega arith

  size_combined : (k : StatKind) (a b : StatValue) → size_of (combined_value k a b) ≤ size_of a + size_of b
  size_combined sum a b = size_sum a b
  size_combined min a b = omega arith
  size_combined max a b = omega arith
  size_combined countvals a b = size_sum a b
  size_combined request.missing a b = size_sum a b

  sizes_combined : (ss : List Stat) (as' bs : List StatValue) (m : ℕ) → size_at m (combined_values ss as' bs) ≤ size_at m as' + size_at m bs
  sizes_combined [] as' bs m = omega arith
  sizes_combined (s ∷ ss) [] bs m = omega arith
  sizes_combined (s ∷ ss) (a ∷ as') [] m = omega arith
  sizes_combined (s ∷ ss) (a ∷ as') (b ∷ bs) zero = size_combined s.of a b
  sizes_combined (s ∷ ss) (a ∷ as') (b ∷ bs) (suc m) = sizes_combined ss as' bs m

  numbers_add_up : (as' bs : List StatValue) → ((m : ℕ) → size_at m as' + size_at m bs < 2 ^ 63) → NumbersAddUp as' bs
  numbers_add_up [] bs h = tt
  numbers_add_up (a ∷ as') [] h = tt
  numbers_add_up (a ∷ as') (b ∷ bs) h =
      let first = h 0 in
      let e = abs_add (amount a) (amount b) in let f = size_amount a in let g = size_amount b in
      (fits_signed_from_abs w64 (amount a +ℤ amount b) (omega (arith, first)), numbers_add_up as' bs (λ m. h (suc m)))

  in_turn : (ls : List Listing) (there : Stats) → there.count + sum_by (λ (l : Listing). l.1.count) ls < 2 ^ 64
      → ((m : ℕ) → size_at m there.values + sum_by (λ (l : Listing). size_at m l.1.values) ls < 2 ^ 63) → AddUpInTurn ss there ls
  in_turn [] there c z = tt
  in_turn (l ∷ ls) there c z =
      let count = sum_by-cons (λ (l : Listing). l.1.count) l ls in
      let size : (m : ℕ) → sum_by (λ (l : Listing). size_at m l.1.values) (l ∷ ls) ≡ size_at m l.1.values + sum_by (λ (l : Listing). size_at m l.1.values) ls = λ m. sum_by-cons (λ (l : Listing). size_at m l.1.values) l ls in (
        record { count = omega (arith, count, c); numbers = numbers_add_up there.values l.1.values (λ m. omega (arith, size m, z m)) },
        in_turn ls (combined ss there l.1) (omega (arith, count, c)) (λ m. omega (arith, size m, z m, sizes_combined ss there.values l.1.values m)),
      )

  no_sizes : (ss : List Stat) (m : ℕ) → size_at m (map (λ s. value_over s []) ss) ≡ 0
  no_sizes [] m = refl
  no_sizes (s ∷ ss) zero = one s.of s.field
    where
      one : (k : StatKind) (field : ℕ) → size_of (value_over (record { of = k; field = field }) []) ≡ 0
      one sum field = refl
      one min field = refl
      one max field = refl
      one countvals field = refl
      one request.missing field = refl
  no_sizes (s ∷ ss) (suc m) = no_sizes ss m

  shapes : (ps : List Part) → FitParts kind inner ps → All (λ (l : Listing). HasShape ss l.1) (listed_by v ps)
  shapes [] fit = λ k d l. absurd (omega arith)
  shapes (p ∷ ps) fit =
      subst (λ l. All (λ (l : Listing). HasShape ss l.1) (l ++ listed_by v ps)) (sym (found_in v kind inner p.shard p.buckets None (fit_head p ps fit))) (go (bucket_of (value v) p.buckets) refl (shapes ps (fit_tail p ps fit)))
    where
      go : (o : Option HeldBucket) → bucket_of (value v) p.buckets ≡ o → All (λ (l : Listing). HasShape ss l.1) (listed_by v ps) → All (λ (l : Listing). HasShape ss l.1) (listing_of p.shard o ++ listed_by v ps)
      go None e ih = ih
      go (Some b) e ih = All-cons (λ (l : Listing). HasShape ss l.1) (p.shard, b.stats) (listed_by v ps) (found_shape v kind inner p.buckets None (fit_head p ps fit) b e) ih

  -- what is told of the value can be combined
  pub can_combine : (ps : List Part) → FitParts kind inner ps → SumsFit ps → CanCombine ss (listed_by v ps)
  can_combine ps fit sums = record {
    shaped = shapes ps fit;
    fit = in_turn (listed_by v ps) (stats_over ss []) (omega (arith, counts_are ps fit, sums.counts (value v))) (λ m. omega (arith, no_sizes ss m, sizes_are m ps fit, sums.sizes m (value v)));
  }
