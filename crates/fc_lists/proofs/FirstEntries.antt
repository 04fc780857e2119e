-- The positions of entries, each once, and the places of their first entries.
use Rattle.std.proofs.Common.{◌≡◌, ℕ, ◌+◌, ◌-◌, ◌<◌, ◌≤◌, ◌⊎◌, inl, inr, Bool, true, false, cond, ◌||◌, ◌==◌, nat_lt, List, [], ◌∷◌, ◌++◌, length, get_or, take, map, count_by, All, MatchBool, not, refl, sym, ap, ◌∙◌, subst, subst₂, arith, lt-ltb, le-ltb, eqb-true, add-zero}
use Rattle.std.proofs.Math.Bool.{or-false}
use Rattle.std.proofs.lemmas.Bool.{cases_lt, cases_Bool, eqb-false}
use Rattle.std.proofs.lemmas.List.{get_or_append_left, get_or_push, length_push, get_or-take, get_or_default, get_or-map, length-map, take_more, length-take-le}
use Rattle.std.proofs.lemmas.List.Folds.{list_any-append}
use Rattle.std.proofs.lemmas.List.Sums.{sum_by_push, count_by-le-length}
use Rattle.std.specs.List.Sorted.{IsStrictlyIncreasing, IsNonDecreasing, IsNonDecreasingBy}
use Rattle.fc_lists.specs.Among.{is_among}
use Rattle.fc_lists.specs.Heads.{AreHeads}
use Rattle.fc_lists.specs.Starts.{AreStarts}
use Rattle.fc_lists.proofs.Counts.{count_all, below_mono}
use Rattle.fc_lists.proofs.Marks.{Place, among_at, place_among, rises}

pub record HeadsSoFar (all positions starts : List ℕ) : Type 0 where
  pub rising : IsStrictlyIncreasing positions
  pub same : (at : ℕ) → is_among at positions ≡ is_among at all
  pub few : length positions ≤ length all
  pub size : length starts ≡ length positions
  pub places : (k : ℕ) → k < length positions → get_or starts k 0 ≡ count_by (λ at. nat_lt at (get_or positions k 0)) all

-- a position is that of an entry
pub place_of_position : (all positions : List ℕ) → ((at : ℕ) → is_among at positions ≡ is_among at all) → (k : ℕ) → k < length positions → Place (get_or positions k 0) all
place_of_position all positions same k inside =
    place_among (get_or positions k 0) all (sym (same (get_or positions k 0)) ∙ among_at (get_or positions k 0) positions k inside refl)

pub position_bound : (all positions : List ℕ) (bound : ℕ) → ((at : ℕ) → is_among at positions ≡ is_among at all) → All (λ at. at < bound) all
    → (k : ℕ) → k < length positions → get_or positions k 0 < bound
position_bound all positions bound same below k inside =
    let place = place_of_position all positions same k inside in
    omega (arith, below place.at 0 place.inside, place.is)

pub rising_push : (xs : List ℕ) (y : ℕ) → IsStrictlyIncreasing xs → ((k : ℕ) → k < length xs → get_or xs k 0 < y) → IsStrictlyIncreasing (xs ++ y ∷ [])
rising_push xs y rising below k inside = go (cases_lt (k + 1) (length xs))
  where
    long : length (xs ++ y ∷ []) ≡ length xs + 1
    long = length_push xs y

    go : ((k + 1 < length xs) ⊎ (length xs ≤ k + 1)) → get_or (xs ++ y ∷ []) k 0 < get_or (xs ++ y ∷ []) (k + 1) 0
    go (inl within) =
        omega (arith, rising k within, get_or_append_left xs (y ∷ []) 0 k (omega arith), get_or_append_left xs (y ∷ []) 0 (k + 1) within)
    go (inr last) =
        omega (arith, below k (omega (arith, long)), get_or_append_left xs (y ∷ []) 0 k (omega (arith, long)), get_or_push xs y 0 (k + 1) (omega (arith, long)))

-- ---- one more entry
module _ (all positions starts : List ℕ) (at : ℕ) (so_far : HeadsSoFar all positions starts) where
  pub heads_new : All (λ before. before < at) all → HeadsSoFar (all ++ at ∷ []) (positions ++ at ∷ []) (starts ++ length all ∷ [])
  heads_new below = record {
    rising = rising_push positions at so_far.rising lower;
    same = λ n. list_any-append (λ number. n == number) positions (at ∷ [])
        ∙ ap (λ b. b || ((n == at) || false)) (so_far.same n) ∙ sym (list_any-append (λ number. n == number) all (at ∷ []));
    few = omega (arith, so_far.few, length_push all at, length_push positions at);
    size = omega (arith, so_far.size, length_push starts (length all), length_push positions at);
    places = λ k inside. go k inside (cases_lt k (length positions));
  }
    where
      lower : (k : ℕ) → k < length positions → get_or positions k 0 < at
      lower k inside = position_bound all positions at so_far.same below k inside

      counted : (bound : ℕ) → bound ≤ at → count_by (λ n. nat_lt n bound) (all ++ at ∷ []) ≡ count_by (λ n. nat_lt n bound) all
      counted bound most =
          sum_by_push (λ n. cond (nat_lt n bound) 1 0) all at
          ∙ ap (λ b. count_by (λ n. nat_lt n bound) all + cond b 1 0) (le-ltb at bound most) ∙ add-zero (count_by (λ n. nat_lt n bound) all)

      go : (k : ℕ) → k < length (positions ++ at ∷ []) → ((k < length positions) ⊎ (length positions ≤ k))
          → get_or (starts ++ length all ∷ []) k 0 ≡ count_by (λ n. nat_lt n (get_or (positions ++ at ∷ []) k 0)) (all ++ at ∷ [])
      go k inside (inl before) =
          get_or_append_left starts (length all ∷ []) 0 k (omega (arith, so_far.size)) ∙ so_far.places k before
          ∙ sym (ap (λ p. count_by (λ n. nat_lt n p) (all ++ at ∷ [])) (get_or_append_left positions (at ∷ []) 0 k before)
          ∙ counted (get_or positions k 0) (omega (arith, lower k before)))
      go k inside (inr last) =
          let here : length positions ≡ k = omega (arith, length_push positions at) in
          get_or_push starts (length all) 0 k (omega (arith, so_far.size))
          ∙ sym (ap (λ p. count_by (λ n. nat_lt n p) (all ++ at ∷ [])) (get_or_push positions at 0 k here) ∙ counted at (omega arith)
          ∙ count_all (λ n. nat_lt n at) all (λ j d within. lt-ltb (get_or all j d) at (below j d within)))

  pub heads_old : is_among at all ≡ true → All (λ before. before ≤ at) all → HeadsSoFar (all ++ at ∷ []) positions starts
  heads_old among most = record {
    rising = so_far.rising;
    same = λ n. so_far.same n ∙ known n (cases_Bool (n == at)) ∙ sym (list_any-append (λ number. n == number) all (at ∷ []));
    few = omega (arith, so_far.few, length_push all at);
    size = so_far.size;
    places = λ k inside.
        let bound = position_bound all positions (at + 1) so_far.same (λ j d within. let less = most j d within in omega arith) k inside in
        so_far.places k inside
        ∙ sym (sum_by_push (λ n. cond (nat_lt n (get_or positions k 0)) 1 0) all at
        ∙ ap (λ b. count_by (λ n. nat_lt n (get_or positions k 0)) all + cond b 1 0) (le-ltb at (get_or positions k 0) (omega (arith, bound)))
        ∙ add-zero (count_by (λ n. nat_lt n (get_or positions k 0)) all));
  }
    where
      known : (n : ℕ) → ((n == at ≡ true) ⊎ (n == at ≡ false)) → is_among n all ≡ (is_among n all || ((n == at) || false))
      known n (inl same) =
          let here = ap (λ m. is_among m all) (eqb-true n at same) ∙ among in
          here ∙ sym (ap (λ b. b || ((n == at) || false)) here)
      known n (inr other) = sym (ap (λ b. is_among n all || (b || false)) other ∙ or-false (is_among n all))

pub heads_whole : (all positions starts : List ℕ) → HeadsSoFar all positions starts → AreHeads all positions (starts ++ length all ∷ [])
heads_whole all positions starts so_far = record {
  rising = so_far.rising;
  same = so_far.same;
  few = so_far.few;
  size = omega (arith, so_far.size, length_push starts (length all));
  places = λ k inside. get_or_append_left starts (length all ∷ []) 0 k (omega (arith, so_far.size)) ∙ so_far.places k inside;
  end = get_or_push starts (length all) 0 (length positions) (so_far.size);
}

-- the starts do not fall
pub heads_start : (all positions starts : List ℕ) → AreHeads all positions starts → AreStarts starts (length all)
heads_start all positions starts heads = record {
  some = omega (arith, heads.size);
  rising = λ i j d order within. go i j d order within (cases_lt j (length positions)) (cases_lt i (length positions));
  last = let here : length starts - 1 ≡ length positions = omega (arith, heads.size) in ap (λ n. get_or starts n 0) here ∙ heads.end;
}
  where
    at : (i d : ℕ) → i < length starts → get_or starts i d ≡ get_or starts i 0
    at i d within = get_or_default starts i d 0 within

    go : (i j d : ℕ) → i ≤ j → j < length starts → ((j < length positions) ⊎ (length positions ≤ j)) → ((i < length positions) ⊎ (length positions ≤ i))
        → get_or starts i d ≤ get_or starts j d
    go i j d order within (inl below) _ =
        let more = below_mono (λ n. n) (get_or positions i 0) (get_or positions j 0) all (rises positions i j 0 heads.rising order below) in
        omega (arith, at i d (omega arith), at j d within, heads.places i (omega arith), heads.places j below, more)
    go i j d order within (inr last) (inl before) =
        let here : j ≡ length positions = omega (arith, heads.size) in
        let most = count_by-le-length (λ n. nat_lt n (get_or positions i 0)) all in
        omega (arith, at i d (omega arith), at j d within, heads.places i before, ap (λ n. get_or starts n 0) here, heads.end, most)
    go i j d order within (inr last) (inr past) =
        let here : i ≡ j = omega (arith, heads.size) in
        omega (arith, ap (λ n. get_or starts n d) here)

-- ---- whether an entry is the first of its position
pub first_of_all : (all : List ℕ) (place : ℕ) (P : ℕ → Type 0) → place ≡ 0 → All P (take place all)
first_of_all all place P none k d inside =
    absurd (omega (arith, ap (λ n. length (take n all)) none))

pub head_is_new : (all : List ℕ) (place : ℕ) → IsNonDecreasing all → 0 < place → place < length all → (get_or all (place - 1) 0 ≡ get_or all place 0 → ⊥)
    → All (λ before. before < get_or all place 0) (take place all)
head_is_new all place rising some within other k d inside =
    let size = length-take-le place all (omega arith) in
    let last = rising (place - 1) place 0 (omega arith) within in
    let here = rising k (place - 1) 0 (omega arith) (omega arith) in
    omega (arith, get_or-take place all k d (omega arith), get_or_default all k d 0 (omega arith), here, last, other)

pub head_is_old : (all : List ℕ) (place : ℕ) → 0 < place → place < length all → get_or all (place - 1) 0 ≡ get_or all place 0
    → is_among (get_or all place 0) (take place all) ≡ true
head_is_old all place some within same =
    let size = length-take-le place all (omega arith) in
    among_at (get_or all place 0) (take place all) (place - 1) (omega arith) (get_or-take place all (place - 1) 0 (omega arith) ∙ same)

pub before_most : (all : List ℕ) (place : ℕ) → IsNonDecreasing all → place < length all → All (λ before. before ≤ get_or all place 0) (take place all)
before_most all place rising within k d inside =
    let size = length-take-le place all (omega arith) in
    omega (arith, get_or-take place all k d (omega arith), get_or_default all k d 0 (omega arith), rising k place 0 (omega arith) within)

pub rising_map : {X : Type 0} (key : X → ℕ) (xs : List X) → IsNonDecreasingBy key xs → IsNonDecreasing (map key xs)
rising_map key [] rising i j d order within = absurd (omega arith)
rising_map key (x ∷ xs) rising i j d order within =
    let size = length-map (x ∷ xs) key in
    omega (arith, get_or-map key (x ∷ xs) i x d (omega arith), get_or-map key (x ∷ xs) j x d (omega arith), rising i j x order (omega arith))

pub head_decides : (all : List ℕ) (place x y : ℕ) → IsNonDecreasing all → 0 < place → place < length all → x ≡ get_or all (place - 1) 0 → y ≡ get_or all place 0
    → MatchBool (not (x == y)) (All (λ before. before < get_or all place 0) (take place all)) (is_among (get_or all place 0) (take place all) ≡ true)
head_decides all place x y rising some within before here = go (x == y) refl
  where
    go : (b : Bool) → x == y ≡ b → MatchBool (not b) (All (λ at. at < get_or all place 0) (take place all)) (is_among (get_or all place 0) (take place all) ≡ true)
    go true same = head_is_old all place some within (sym before ∙ eqb-true x y same ∙ here)
    go false other = head_is_new all place rising some within (λ same. eqb-false x y other (before ∙ same ∙ sym here))

-- ---- a step of the loop over the entries
pub heads_step_new : (all : List ℕ) (i at : ℕ) (positions starts new_positions new_starts : List ℕ) → i < length all → at ≡ get_or all i 0
    → new_positions ≡ positions ++ at ∷ [] → new_starts ≡ starts ++ i ∷ [] → HeadsSoFar (take i all) positions starts
    → All (λ before. before < get_or all i 0) (take i all) → HeadsSoFar (take (i + 1) all) new_positions new_starts
heads_step_new all i at positions starts new_positions new_starts within here positions_are starts_are so_far new =
    let taken = take i all in
    let size : length taken ≡ i = length-take-le i all (omega arith) in
    let added = heads_new taken positions starts (get_or all i 0) so_far new in
    let whole = sym (take_more all i 0 within) in
    let ps : positions ++ get_or all i 0 ∷ [] ≡ new_positions = ap (λ n. positions ++ n ∷ []) (sym here) ∙ sym positions_are in
    let ss : starts ++ length taken ∷ [] ≡ new_starts = ap (λ n. starts ++ n ∷ []) size ∙ sym starts_are in
    subst (λ l. HeadsSoFar l new_positions new_starts) whole
    (subst₂ (HeadsSoFar (taken ++ get_or all i 0 ∷ [])) ps ss added)

pub heads_step_old : (all : List ℕ) (i : ℕ) (positions starts : List ℕ) → i < length all → IsNonDecreasing all → HeadsSoFar (take i all) positions starts
    → is_among (get_or all i 0) (take i all) ≡ true → HeadsSoFar (take (i + 1) all) positions starts
heads_step_old all i positions starts within rising so_far among =
    subst (λ l. HeadsSoFar l positions starts) (sym (take_more all i 0 within))
    (heads_old (take i all) positions starts (get_or all i 0) so_far among (before_most all i rising within))
