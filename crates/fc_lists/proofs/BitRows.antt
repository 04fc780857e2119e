-- The items of each position, by the bits of the positions that have some.
use Rattle.std.proofs.Common.{◌≡◌, ℕ, zero, suc, ◌+◌, ◌-◌, ◌*◌, ◌<◌, ◌≤◌, ◌⊎◌, inl, inr, Bool, true, false, cond, ◌||◌, ◌==◌, nat_lt, List, [], ◌∷◌, length, get_or, take, drop, map, slice_range, count_by, All, not, refl, sym, ap, ap₂, ◌∙◌, subst, arith, lt-ltb, le-ltb, eq-eqb, ne_eqb, zero-add, true≢false}
use Rattle.std.proofs.lemmas.Bool.{cases_lt, cases_eq, cases_order}
use Rattle.std.proofs.lemmas.List.{get_or-map, length-map, get_or_default}
use Rattle.std.proofs.lemmas.List.Edits.{between_none}
use Rattle.std.proofs.lemmas.Slice.{between_from_start}
use Rattle.std.proofs.lemmas.List.Folds.{fold-map}
use Rattle.std.proofs.lemmas.List.Kept.{AllPairs-from_increasing}
use Rattle.std.specs.List.{range_with_len}
use Rattle.std.specs.List.Sorted.{IsStrictlyIncreasing, IsNonDecreasingBy}
use Rattle.fc_spec.specs.documents.Bits.{has_bit}
use Rattle.fc_spec.proofs.words.Counting.{count_by-cons}
use Rattle.fc_lists.specs.declared.entries.Entry.{Entry}
use Rattle.fc_lists.specs.Among.{is_among}
use Rattle.fc_lists.specs.Items.{items_at, rows_below}
use Rattle.fc_lists.specs.Starts.{cut}
use Rattle.fc_lists.specs.Heads.{AreHeads}
use Rattle.fc_lists.specs.Ranks.{bits_below}
use Rattle.fc_lists.specs.Rows.{row_at}
use Rattle.fc_lists.proofs.BitRanks.{bits_below-next, rank_within}
use Rattle.fc_spec.specs.words.Lists.{is_empty}
use Rattle.fc_lists.proofs.Counts.{count_same, count_all, count_none, below_next, count_at_point}
use Rattle.fc_lists.proofs.Cuts.{length-cut, get_or-cut}
use Rattle.fc_lists.proofs.FirstEntries.{place_of_position}
use Rattle.fc_lists.proofs.ItemsAt.{items_at_none, some_item, map_range_same}
use Rattle.fc_lists.proofs.Marks.{Marked, Place, among_at, place_among, not_among, rises, word_within}

-- ---- the items of a position are a part of all items, where positions do not fall
abbrev pub lower : {T : Type 0} → ℕ → List (Entry T) → ℕ
lower k es = count_by (λ e. nat_lt e.at k) es

rising_tail : {X : Type 0} (key : X → ℕ) (x : X) (xs : List X) → IsNonDecreasingBy key (x ∷ xs) → IsNonDecreasingBy key xs
rising_tail key x xs rising = λ i j d order within. rising (suc i) (suc j) d (omega arith) (omega arith)

module _ {T : Type 0} (e : Entry T) (es : List (Entry T)) (k : ℕ) (rising : IsNonDecreasingBy (λ x. x.at) (e ∷ es)) where
  later : All (λ x. e.at ≤ x.at) es
  later j d within = rising 0 (suc j) d (omega arith) (omega arith)

  lower_in : (n : ℕ) → e.at < n → lower n (e ∷ es) ≡ suc (lower n es)
  lower_in n below = count_by-cons (λ x. nat_lt x.at n) e es ∙ ap (λ b. cond b 1 0 + lower n es) (lt-ltb e.at n below) ∙ omega arith

  lower_none : (n : ℕ) → n ≤ e.at → (lower n es ≡ 0) × (lower n (e ∷ es) ≡ 0)
  lower_none n above =
      let rest = count_none (λ x. nat_lt x.at n) es (λ j d within. le-ltb (get_or es j d).at n (let more = later j d within in omega arith)) in
      (rest, count_by-cons (λ x. nat_lt x.at n) e es ∙ ap (λ b. cond b 1 0 + lower n es) (le-ltb e.at n above) ∙ omega (arith, rest))

pub items_are_part : {T : Type 0} (es : List (Entry T)) (k : ℕ) → IsNonDecreasingBy (λ e. e.at) es
    → items_at es k ≡ slice_range (map (λ e. e.item) es) (lower k es) (lower (k + 1) es)
items_are_part [] k rising = refl
items_are_part {T} (e ∷ es) k rising = go (cases_order e.at k) (items_are_part es k (rising_tail (λ (x : Entry T). x.at) e es rising))
  where
    go : ((e.at ≡ k) ⊎ ((e.at < k) ⊎ (k < e.at))) → items_at es k ≡ slice_range (map (λ x. x.item) es) (lower k es) (lower (k + 1) es)
        → items_at (e ∷ es) k ≡ slice_range (map (λ x. x.item) (e ∷ es)) (lower k (e ∷ es)) (lower (k + 1) (e ∷ es))
    go (inl here) before =
        let none = lower_none e es k rising k (omega arith) in
        let b = lower (k + 1) es in
        let rest : List T = map (λ x. x.item) es in
        ap (λ t. cond t (e.item ∷ items_at es k) (items_at es k)) (eq-eqb e.at k here)
        ∙ ap (λ l. e.item ∷ l) (before ∙ ap (λ n. slice_range rest n b) none.0 ∙ between_from_start rest b)
        ∙ sym (ap₂ (slice_range (e.item ∷ rest)) none.1 (lower_in e es k rising (k + 1) (omega arith)) ∙ between_from_start (e.item ∷ rest) (suc b))
    go (inr (inl below)) before =
        let a = lower k es in
        let b = lower (k + 1) es in
        let rest : List T = map (λ x. x.item) es in
        let size : suc b - suc a ≡ b - a = omega arith in
        ap (λ t. cond t (e.item ∷ items_at es k) (items_at es k)) (ne_eqb e.at k (λ same. omega arith))
        ∙ before
        ∙ sym (ap₂ (slice_range (e.item ∷ rest)) (lower_in e es k rising k below) (lower_in e es k rising (k + 1) (omega arith))
        ∙ ap (λ n. take n (drop a rest)) size)
    go (inr (inr above)) before =
        let rest : List T = map (λ x. x.item) (e ∷ es) in
        items_at_none (e ∷ es) k (λ j d within same. let from = rising 0 j d (omega arith) within in omega arith)
        ∙ sym (ap₂ (slice_range rest) (lower_none e es k rising k (omega arith)).1 (lower_none e es k rising (k + 1) (omega arith)).1 ∙ between_none rest 0)

-- an entry at a place
entry_at : {T : Type 0} (es : List (Entry T)) (j : ℕ) → j < length es → (e : Entry T) × (get_or (map (λ x. x.at) es) j 0 ≡ (get_or es j e).at)
entry_at [] j within = absurd (omega arith)
entry_at (e ∷ es) j within = (e, get_or-map (λ x. x.at) (e ∷ es) j e 0 within)

-- ---- how many positions are below one
count_once : (k : ℕ) (ps : List ℕ) → IsStrictlyIncreasing ps → count_by (λ p. p == k) ps ≡ cond (is_among k ps) 1 0
count_once k [] rising = refl
count_once k (p ∷ ps) rising = count_by-cons (λ q. q == k) p ps ∙ go (cases_eq p k) (count_once k ps (λ j within. rest j within))
  where
    rest : IsStrictlyIncreasing ps
    rest j within =
        let next : suc j + 1 ≡ suc (j + 1) = omega arith in
        subst (λ n. get_or ps j 0 < get_or (p ∷ ps) n 0) next (rising (suc j) (omega arith))

    go : ((p ≡ k) ⊎ (p ≡ k → ⊥)) → count_by (λ q. q == k) ps ≡ cond (is_among k ps) 1 0
        → cond (p == k) 1 0 + count_by (λ q. q == k) ps ≡ cond ((k == p) || is_among k ps) 1 0
    go (inl same) rest =
        let none = count_none (λ q. q == k) ps (λ j d within. ne_eqb (get_or ps j d) k (λ again. let more = AllPairs-from_increasing (p ∷ ps) rising 0 (suc j) d (omega arith) (omega arith) in omega arith)) in
        ap₂ (λ b n. cond b 1 0 + n) (eq-eqb p k same) none ∙ sym (ap (λ b. cond (b || is_among k ps) 1 0) (eq-eqb k p (sym same)))
    go (inr other) rest =
        ap₂ (λ b n. cond b 1 0 + n) (ne_eqb p k other) rest ∙ zero-add (cond (is_among k ps) 1 0)
        ∙ sym (ap (λ b. cond (b || is_among k ps) 1 0) (ne_eqb k p (λ same. other (sym same))))

pub bits_below_are : (words positions : List ℕ) (k : ℕ) → Marked words positions → IsStrictlyIncreasing positions → bits_below k words ≡ count_by (λ p. nat_lt p k) positions
bits_below_are words positions zero marked rising = sym (count_none (λ p. nat_lt p 0) positions (λ j d within. le-ltb (get_or positions j d) 0 (omega arith)))
bits_below_are words positions (suc k) marked rising =
    let more : suc k ≡ k + 1 = omega arith in
    ap (λ n. bits_below n words) more ∙ bits_below-next k words
    ∙ ap₂ (λ a b. a + cond b 1 0) (bits_below_are words positions k marked rising) (marked k)
    ∙ ap (λ n. count_by (λ p. nat_lt p k) positions + n) (sym (count_once k positions rising))
    ∙ sym (ap (λ n. count_by (λ p. nat_lt p n) positions) more ∙ below_next (λ p. p) k positions)

rank_at : (positions : List ℕ) (r : ℕ) → IsStrictlyIncreasing positions → r < length positions → count_by (λ p. nat_lt p (get_or positions r 0)) positions ≡ r
rank_at positions r rising within =
    count_at_point (λ p. nat_lt p (get_or positions r 0)) positions r (omega arith)
    (λ k d below. lt-ltb (get_or positions k d) (get_or positions r 0)
    (let less = AllPairs-from_increasing positions rising k r 0 below within in omega (arith, less, get_or_default positions k d 0 (omega arith))))
    (λ k d from inside. le-ltb (get_or positions k d) (get_or positions r 0)
    (let more = rises positions r k 0 rising from inside in omega (arith, more, get_or_default positions k d 0 inside)))

-- ---- the lists that stand behind one another
module _ {T : Type 0} (es : List (Entry T)) (positions starts : List ℕ) (rising : IsNonDecreasingBy (λ e. e.at) es)
    (heads : AreHeads (map (λ e. e.at) es) positions starts) where
  counted : (k : ℕ) → count_by (λ at. nat_lt at k) (map (λ e. e.at) es) ≡ lower k es
  counted k = fold-map (λ a x. a + cond (nat_lt x k) 1 0) (λ (e : Entry T). e.at) 0 es

  position_of_entry : (j : ℕ) (d : ℕ) → j < length (map (λ (e : Entry T). e.at) es) → Place (get_or (map (λ (e : Entry T). e.at) es) j d) positions
  position_of_entry j d inside =
      let all = map (λ (e : Entry T). e.at) es in
      let at = get_or all j d in
      place_among at positions (heads.same at ∙ among_at at all j inside (get_or_default all j 0 d inside))

  start_next : (r : ℕ) → r < length positions → get_or starts (r + 1) 0 ≡ lower (get_or positions r 0 + 1) es
  start_next r within = go (cases_lt (r + 1) (length positions)) ∙ counted (get_or positions r 0 + 1)
    where
      go : ((r + 1 < length positions) ⊎ (length positions ≤ r + 1)) → get_or starts (r + 1) 0 ≡ count_by (λ at. nat_lt at (get_or positions r 0 + 1)) (map (λ e. e.at) es)
      go (inl more) =
          heads.places (r + 1) more
          ∙ count_same (λ at. nat_lt at (get_or positions (r + 1) 0)) (λ at. nat_lt at (get_or positions r 0 + 1)) (map (λ (e : Entry T). e.at) es)
          (λ j d inside. same_side (get_or (map (λ (e : Entry T). e.at) es) j d) (position_of_entry j d inside))
        where
          same_side : (at : ℕ) → Place at positions → nat_lt at (get_or positions (r + 1) 0) ≡ nat_lt at (get_or positions r 0 + 1)
          same_side at place = elim (cases_lt r place.at) [
            | inl past ↦
                let from = rises positions (r + 1) place.at 0 heads.rising (omega arith) place.inside in
                let step = heads.rising r more in
                le-ltb at (get_or positions (r + 1) 0) (omega (arith, from, place.is))
                ∙ sym (le-ltb at (get_or positions r 0 + 1) (omega (arith, from, place.is, step)))
            | inr upto ↦
                let to = rises positions place.at r 0 heads.rising upto within in
                let step = heads.rising r more in
                lt-ltb at (get_or positions (r + 1) 0) (omega (arith, to, place.is, step))
                ∙ sym (lt-ltb at (get_or positions r 0 + 1) (omega (arith, to, place.is)))
          ]
      go (inr last) =
          let here : r + 1 ≡ length positions = omega arith in
          ap (λ n. get_or starts n 0) here ∙ heads.end
          ∙ sym (count_all (λ at. nat_lt at (get_or positions r 0 + 1)) (map (λ (e : Entry T). e.at) es)
          (λ j d inside.
          let place = position_of_entry j d inside in
          let to = rises positions place.at r 0 heads.rising (omega (arith, place.inside)) within in
          lt-ltb (get_or (map (λ (e : Entry T). e.at) es) j d) (get_or positions r 0 + 1) (omega (arith, to, place.is))))

  pub list_is : (r : ℕ) → r < length positions → get_or (cut starts (map (λ e. e.item) es)) r [] ≡ items_at es (get_or positions r 0)
  list_is r within =
      get_or-cut starts (map (λ e. e.item) es) r (omega (arith, heads.size))
      ∙ ap₂ (slice_range (map (λ e. e.item) es)) (heads.places r within ∙ counted (get_or positions r 0)) (start_next r within)
      ∙ sym (items_are_part es (get_or positions r 0) rising)

  pub length-lists : length (cut starts (map (λ e. e.item) es)) ≡ length positions
  length-lists = length-cut starts (map (λ e. e.item) es) ∙ omega (arith, heads.size)

  pub lists_some : All (λ list. 0 < length list) (cut starts (map (λ e. e.item) es))
  lists_some r d inside =
      let within : r < length positions = omega (arith, length-lists) in
      let place = place_of_position (map (λ (e : Entry T). e.at) es) positions heads.same r within in
      let below : place.at < length es = omega (arith, place.inside, length-map es (λ (e : Entry T). e.at)) in
      let entry = entry_at es place.at below in
      let list = get_or_default (cut starts (map (λ (e : Entry T). e.item) es)) r d [] inside ∙ list_is r within in
      subst (λ (l : List T). 0 < length l) (sym list)
      (subst (λ at. 0 < length (items_at es at)) (sym entry.1 ∙ place.is) (some_item es place.at entry.0 below))

  -- ---- where the words have the bits of the positions
  pub row_is : (words : List ℕ) (k : ℕ) → Marked words positions → row_at words (cut starts (map (λ e. e.item) es)) k ≡ items_at es k
  row_is words k marked = go (is_among k positions) refl
    where
      go : (b : Bool) → is_among k positions ≡ b → row_at words (cut starts (map (λ e. e.item) es)) k ≡ items_at es k
      go true among =
          let place = place_among k positions among in
          let rank = bits_below_are words positions k marked heads.rising
          ∙ ap (λ n. count_by (λ p. nat_lt p n) positions) (sym place.is) ∙ rank_at positions place.at heads.rising place.inside in
          ap (λ b. cond b (get_or (cut starts (map (λ e. e.item) es)) (bits_below k words) []) []) (marked k ∙ among)
          ∙ ap (λ n. get_or (cut starts (map (λ e. e.item) es)) n []) rank
          ∙ list_is place.at place.inside ∙ ap (items_at es) place.is
      go false none =
          ap (λ b. cond b (get_or (cut starts (map (λ e. e.item) es)) (bits_below k words) []) []) (marked k ∙ none)
          ∙ sym (items_at_none es k (λ j d inside same.
          let all = map (λ (e : Entry T). e.at) es in
          let size = length-map es (λ (e : Entry T). e.at) in
          let among = heads.same k ∙ among_at k all j (omega arith) (get_or-map (λ (e : Entry T). e.at) es j d 0 inside ∙ same) in
          true≢false (sym among ∙ none)))

  pub rows_are : (words : List ℕ) (len : ℕ) → Marked words positions
      → map (row_at words (cut starts (map (λ e. e.item) es))) (range_with_len 0 len) ≡ rows_below es len
  rows_are words len marked =
      map_range_same (row_at words (cut starts (map (λ e. e.item) es))) (items_at es) len (λ k below. row_is words k marked)

  pub whole_is : (words : List ℕ) → Marked words positions → bits_below (64 * length words) words ≡ length (cut starts (map (λ e. e.item) es))
  whole_is words marked =
      bits_below_are words positions (64 * length words) marked heads.rising
      ∙ count_all (λ p. nat_lt p (64 * length words)) positions (λ j d inside.
      let at = get_or positions j d in
      let has = marked at ∙ among_at at positions j inside (get_or_default positions j 0 d inside) in
      let word = word_within words at has in
      lt-ltb at (64 * length words) (omega arith))
      ∙ sym length-lists

  pub none_past_is : (words : List ℕ) (len : ℕ) → Marked words positions → All (λ e. e.at < len) es → (at : ℕ) → len ≤ at → has_bit words at ≡ false
  none_past_is words len marked below at past =
      marked at ∙ heads.same at
      ∙ not_among at (map (λ e. e.at) es) (λ j inside same.
      let within : j < length es = omega (arith, length-map es (λ (e : Entry T). e.at)) in
      let entry = entry_at es j within in
      omega (arith, entry.1, below j entry.0 within, same))

  pub positions_within : (len : ℕ) → All (λ e. e.at < len) es → All (λ at. at < len) positions
  positions_within len below r d inside =
      let place = place_of_position (map (λ (e : Entry T). e.at) es) positions heads.same r inside in
      let within : place.at < length es = omega (arith, place.inside, length-map es (λ (e : Entry T). e.at)) in
      let entry = entry_at es place.at within in
      omega (arith, entry.1, below place.at entry.0 within, place.is, get_or_default positions r d 0 inside)

-- ---- a position has items where its bit is 1
pub row_some : {T : Type 0} (words : List ℕ) (lists : List (List T)) (at : ℕ) → All (λ list. 0 < length list) lists
    → bits_below (64 * length words) words ≡ length lists → not (is_empty (row_at words lists at)) ≡ has_bit words at
row_some words lists at some whole = go (has_bit words at) refl
  where
    go : (b : Bool) → has_bit words at ≡ b → not (is_empty (row_at words lists at)) ≡ has_bit words at
    go true has =
        let within = rank_within words at (length lists) has (word_within words at has) whole in
        let list = some (bits_below at words) [] within in
        ap (λ b. not (is_empty (cond b (get_or lists (bits_below at words) []) []))) has
        ∙ ap not (ne_eqb (length (get_or lists (bits_below at words) [])) 0 (λ none. omega (arith, list))) ∙ sym has
    go false has = ap (λ b. not (is_empty (cond b (get_or lists (bits_below at words) []) []))) has ∙ sym has
