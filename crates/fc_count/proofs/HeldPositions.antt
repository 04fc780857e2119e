-- The positions that a number holds, among all and among those in a set.
use Rattle.std.proofs.Common.{◌≡◌, ◌<◌, ℕ, Bool, true, false, cond, List, [], ◌∷◌, map, length, get_or, All, refl, sym, ap, subst, ◌∙◌, arith}
use Rattle.std.specs.List.{filter, items_where_true, range_with_len}
use Rattle.std.specs.Prelude.{count_by, IsPermutation}
use Rattle.std.proofs.lemmas.List.{get_or_default, same_lists}
use Rattle.std.proofs.lemmas.List.Elements.{All-filter}
use Rattle.std.proofs.lemmas.List.FromFn.{get_or-map-range_with_len, get_or-range_with_len, length-map-range_with_len, length-range_with_len}
use Rattle.std.proofs.lemmas.List.Sorted.{All-permutation, IsPermutation-map, IsPermutation-sym}
use Rattle.std.proofs.lemmas.List.Sums.{count_by-le-length, sum_by-cons}
use Rattle.fc_docset.specs.Positions.{contains, positions}
use Rattle.fc_spec.specs.documents.Document.{Block}
use Rattle.fc_spec.specs.documents.Totals.{document_total}
use Rattle.fc_spec.specs.documents.World.{shard_places}
use Rattle.fc_spec.specs.requests.Request.{Stat}
use Rattle.fc_spec.specs.requests.Statistics.{stats_over}
use Rattle.fc_spec.specs.scripts.WorldLimits.{IsWithinLimits}
use Rattle.fc_spec.proofs.requests.StatisticsOfParts.{stats_over-IsPermutation}
use Rattle.fc_spec.proofs.words.PermutedFilters.{IsPermutation-filter}
use Rattle.fc_spec.proofs.words.WhereTrue.{filter_where_true}
use Rattle.fc_partial.specs.Celled.{cell_at}
use Rattle.fc_partial.specs.Fitting.{StatisticsFit}
use Rattle.fc_partial.proofs.Fitting.{picked_fit}
use Rattle.fc_kind.specs.PlaceAt.{place_at}
use Rattle.fc_kind.proofs.PickedPlaces.{places_picked}
use Rattle.fc_kind.proofs.PlaceColumns.{segment_fits}
use Rattle.fc_count.specs.Counted.{AreCounted, held_places}
use Rattle.fc_count.specs.Held.{held_stats}
use Rattle.fc_count.proofs.CountedPlaces.{picked_passing}
use Rattle.fc_count.proofs.PermutedPlaces.{permuted_fit}

-- the positions in a set are those that pass a test which tells its members
pub positions_passing : (t : ℕ → Bool) (set : List Bool) → ((k : ℕ) → k < length set → get_or set k false ≡ t k) → positions set ≡ filter t (range_with_len 0 (length set))
positions_passing t set tells = sym (filter_where_true t (range_with_len 0 (length set)) ∙ ap (λ bs. items_where_true bs (range_with_len 0 (length set))) same)
  where
    same : map t (range_with_len 0 (length set)) ≡ set
    same = same_lists (map t (range_with_len 0 (length set))) set (length-map-range_with_len t 0 (length set)) (λ k d inside.
        let here : k < length set = omega (arith, inside, length-map-range_with_len t 0 (length set)) in
        get_or-map-range_with_len t 0 (length set) k k d here (omega arith) ∙ sym (tells k here) ∙ get_or_default set k false d here)

-- ---- a set of all positions
all_picked : (set : List Bool) (ks : List ℕ) → count_by (λ here. here) set ≡ length set → length ks ≡ length set → items_where_true set ks ≡ ks
all_picked [] [] all long = refl
all_picked [] (k ∷ ks) all long = absurd (omega arith)
all_picked (b ∷ set) [] all long = absurd (omega arith)
all_picked (true ∷ set) (k ∷ ks) all long =
    ap (λ l. k ∷ l) (all_picked set ks (omega (arith, all, sum_by-cons (λ (here : Bool). cond here 1 0) true set)) (omega arith))
all_picked (false ∷ set) (k ∷ ks) all long =
    absurd (omega (arith, all, sum_by-cons (λ (here : Bool). cond here 1 0) false set, count_by-le-length (λ (here : Bool). here) set))

pub all_positions : (set : List Bool) → count_by (λ here. here) set ≡ length set → positions set ≡ range_with_len 0 (length set)
all_positions set all = all_picked set (range_with_len 0 (length set)) all (length-range_with_len 0 (length set))

-- ---- tests one after the other
both_tests : {X : Type 0} (p q : X → Bool) (xs : List X) → filter p (filter q xs) ≡ filter q (filter p xs)
both_tests p q [] = refl
both_tests p q (x ∷ xs) = go (p x) (q x) refl refl (both_tests p q xs)
  where
    go : (a b : Bool) → p x ≡ a → q x ≡ b → filter p (filter q xs) ≡ filter q (filter p xs) → filter p (cond b (x ∷ filter q xs) (filter q xs)) ≡ filter q (cond a (x ∷ filter p xs) (filter p xs))
    go true true e f rest = ap (λ c. cond c (x ∷ filter p (filter q xs)) (filter p (filter q xs))) e ∙ ap (λ l. x ∷ l) rest ∙ sym (ap (λ c. cond c (x ∷ filter q (filter p xs)) (filter q (filter p xs))) f)
    go true false e f rest = rest ∙ sym (ap (λ c. cond c (x ∷ filter q (filter p xs)) (filter q (filter p xs))) f)
    go false true e f rest = ap (λ c. cond c (x ∷ filter p (filter q xs)) (filter p (filter q xs))) e ∙ rest
    go false false e f rest = rest

pub passing_in : (set : List Bool) (t : ℕ → Bool) → filter (contains set) (filter t (range_with_len 0 (length set))) ≡ filter t (positions set)
passing_in set t =
    both_tests (contains set) t (range_with_len 0 (length set))
    ∙ ap (filter t) (sym (positions_passing (contains set) set (λ k here. refl)))

-- ---- positions of a range
pub range_below : (n : ℕ) → All (λ at. at < n) (range_with_len 0 n)
range_below n = λ k d inside.
    let here : k < n = omega (arith, inside, length-range_with_len 0 n) in
    subst (λ at. at < n) (sym (get_or-range_with_len 0 n k d here)) (omega arith)

pub passing_below : (t : ℕ → Bool) (n : ℕ) → All (λ at. at < n) (filter t (range_with_len 0 n))
passing_below t n = All-filter t (λ at. at < n) (range_with_len 0 n) (range_below n)

-- ---- those that a number holds, in any order
module _ (blocks : List Block) (set : List Bool) (long : length set ≡ document_total blocks) (holds : ℕ → ℕ → Bool) (i : ℕ) (list : List ℕ) (is : IsPermutation list (filter (λ at. holds at i) (positions set))) where
  abbrev those : List ℕ
  those = filter (λ at. holds at i) (positions set)

  same_places : IsPermutation (map (place_at blocks) list) (map (place_at blocks) those)
  same_places = IsPermutation-map (place_at blocks) list those is

  those_below : All (λ at. at < document_total blocks) those
  those_below =
      subst (λ n. All (λ at. at < n) those) long
      (subst (All (λ at. at < length set)) (passing_in set (λ at. holds at i))
      (All-filter (contains set) (λ at. at < length set) (filter (λ at. holds at i) (range_with_len 0 (length set))) (passing_below (λ at. holds at i) (length set))))

  pub held_below : All (λ at. at < document_total blocks) list
  held_below = All-permutation (λ at. at < document_total blocks) those list (IsPermutation-sym list those is) those_below

  those_fit : IsWithinLimits (blocks ∷ []) → StatisticsFit (map (place_at blocks) those)
  those_fit limits =
      let f = place_at blocks in
      let t = λ (at : ℕ). holds at i in
      let all : StatisticsFit (map f (positions set)) = subst StatisticsFit (sym (places_picked blocks set long)) (picked_fit set (shard_places 0 0 0 blocks) (segment_fits blocks limits)) in
      subst StatisticsFit (picked_passing f t (positions set)) (picked_fit (map t (positions set)) (map f (positions set)) all)

  pub held_fit : IsWithinLimits (blocks ∷ []) → StatisticsFit (map (place_at blocks) list)
  held_fit limits = permuted_fit (map (place_at blocks) list) (map (place_at blocks) those) same_places (those_fit limits)

  pub held_cell : (bound : ℕ) (ss : List Stat) → i < bound → cell_at (held_stats blocks holds bound ss (positions set)) i ≡ stats_over ss (map (place_at blocks) list)
  held_cell bound ss here =
      get_or-map-range_with_len (λ n. stats_over ss (held_places blocks holds (positions set) n)) 0 bound i i _ here (omega arith)
      ∙ sym (stats_over-IsPermutation ss (map (place_at blocks) list) (map (place_at blocks) those) same_places)

-- these are what numbers have when the documents were counted
pub held_counted : (blocks : List Block) (holds : ℕ → ℕ → Bool) (bound : ℕ) (ss : List Stat) (ks : List ℕ) → AreCounted blocks holds bound ss ks (record { stats = ss; cells = held_stats blocks holds bound ss ks })
held_counted blocks holds bound ss ks = record {
  stats = refl;
  size = length-map-range_with_len (λ n. stats_over ss (held_places blocks holds ks n)) 0 bound;
  each = λ i here. get_or-map-range_with_len (λ n. stats_over ss (held_places blocks holds ks n)) 0 bound i i _ here (omega arith);
}

-- ---- the lists of those that pass, read whole or picked
pub held_whole : (set : List Bool) (n : ℕ) (t : ℕ → Bool) (list : List ℕ) → positions set ≡ range_with_len 0 (length set) → n ≡ length set
    → IsPermutation list (filter t (range_with_len 0 n)) → IsPermutation list (filter t (positions set))
held_whole set n t list whole same is = subst (IsPermutation list) (ap (λ m. filter t (range_with_len 0 m)) same ∙ ap (filter t) (sym whole)) is

pub held_picked : (set : List Bool) (n : ℕ) (t : ℕ → Bool) (list picked : List ℕ) → n ≡ length set
    → IsPermutation list (filter t (range_with_len 0 n)) → picked ≡ filter (contains set) list → IsPermutation picked (filter t (positions set))
held_picked set n t list picked same is picks =
    let all = filter t (range_with_len 0 n) in
    subst (λ l. IsPermutation l (filter t (positions set))) (sym picks)
    (subst (IsPermutation (filter (contains set) list)) (ap (λ m. filter (contains set) (filter t (range_with_len 0 m))) same ∙ passing_in set t)
    (IsPermutation-filter (contains set) list all is))
