-- The positions of ordinals, where no position has two: they are those with one of the ordinals, in another order.
use Rattle.std.proofs.Common.{◌≡◌, ℕ, zero, suc, ◌+◌, ◌-◌, ◌<◌, ◌≤◌, Bool, true, false, ◌||◌, List, [], ◌∷◌, ◌++◌, length, get_or, map, slice_range, All, refl, sym, ap, ◌∙◌, subst, arith}
use Rattle.std.specs.List.{filter, flat_map, items_where_true, list_any, range_with_len}
use Rattle.std.specs.List.Sorted.{IsPermutation}
use Rattle.std.proofs.lemmas.Bool.Decides.{nat_tests}
use Rattle.std.proofs.lemmas.List.{ext_get_or, get_or-map, length-map}
use Rattle.std.proofs.lemmas.List.Elements.{All-head, All-nil, All-cons, All-tail, filter_agree}
use Rattle.std.proofs.lemmas.List.FromFn.{get_or-map-range_with_len, length-map-range_with_len}
use Rattle.std.proofs.lemmas.List.Sorted.{IsPermutation-append_right, IsPermutation-refl, IsPermutation-sym, IsPermutation-trans}
use Rattle.fc_spec.proofs.words.PermutedFilters.{IsPermutation-filter_either}
use Rattle.fc_spec.proofs.words.WhereTrue.{filter_where_true}
use Rattle.fc_lists.proofs.Cuts.{slice_range-map-range}
use Rattle.fc_lists.specs.Among.{is_among}
use Rattle.fc_column.specs.Terms.{has_from_to}
use Rattle.fc_column.proofs.TermPositions.{places, range_among}

-- ---- rows of at most one item
abbrev pub AreSingle : {X : Type 0} → List (List X) → Type 0
AreSingle rows = All (λ row. length row ≤ 1) rows

pub single_map : {X Y : Type 0} (f : X → Y) (rows : List (List X)) → AreSingle rows → AreSingle (map (map f) rows)
single_map f [] single = All-nil (λ row. length row ≤ 1)
single_map f (row ∷ rows) single =
    All-cons (λ r. length r ≤ 1) (map f row) (map (map f) rows)
    (omega (arith, length-map row f, All-head (λ r. length r ≤ 1) row rows single))
    (single_map f rows (All-tail (λ r. length r ≤ 1) row rows single))

pub single_back : {X Y : Type 0} (f : X → Y) (rows : List (List X)) → AreSingle (map (map f) rows) → AreSingle rows
single_back f [] single = All-nil (λ row. length row ≤ 1)
single_back f (row ∷ rows) single =
    All-cons (λ r. length r ≤ 1) row rows
    (omega (arith, length-map row f, All-head (λ r. length r ≤ 1) (map f row) (map (map f) rows) single))
    (single_back f rows (All-tail (λ r. length r ≤ 1) (map f row) (map (map f) rows) single))

single_at : {X : Type 0} (rows : List (List X)) (at : ℕ) → AreSingle rows → length (get_or rows at []) ≤ 1
single_at [] at single = omega arith
single_at (row ∷ rows) zero single = All-head (λ r. length r ≤ 1) row rows single
single_at (row ∷ rows) (suc at) single = single_at rows at (All-tail (λ r. length r ≤ 1) row rows single)

-- ---- the positions of an ordinal pass a test
by_place : {X : Type 0} (p : List X → Bool) (rows : List (List X)) → map p rows ≡ map (λ at. p (get_or rows at [])) (range_with_len 0 (length rows))
by_place p rows =
    let there = length-map-range_with_len (λ at. p (get_or rows at [])) 0 (length rows) in
    let here = length-map rows p in
    ext_get_or false (map p rows) (map (λ at. p (get_or rows at [])) (range_with_len 0 (length rows))) (here ∙ sym there)
    (λ k inside.
    let within : k < length rows = omega (arith, here) in
    get_or-map p rows k [] false within
    ∙ sym (get_or-map-range_with_len (λ at. p (get_or rows at [])) 0 (length rows) k k false within (omega arith)))

places_passing : (rows : List (List ℕ)) (ord : ℕ) → places rows ord ≡ filter (λ at. is_among ord (get_or rows at [])) (range_with_len 0 (length rows))
places_passing rows ord =
    ap (λ n. items_where_true (map (is_among ord) rows) (range_with_len 0 n)) (length-map rows (is_among ord))
    ∙ ap (λ tests. items_where_true tests (range_with_len 0 (length rows))) (by_place (is_among ord) rows)
    ∙ sym (filter_where_true (λ at. is_among ord (get_or rows at [])) (range_with_len 0 (length rows)))

pub none_pass : {X : Type 0} (xs : List X) → filter (λ x. false) xs ≡ []
none_pass [] = refl
none_pass (x ∷ xs) = none_pass xs

-- ---- those of ordinals one after another
-- one ordinal is not also a later one
apart : (ord count : ℕ) (row : List ℕ) → length row ≤ 1 → is_among ord row ≡ true → has_from_to (ord + 1) (ord + 1 + count) row ≡ true → ⊥
apart ord count [] few has later = cc
apart ord count (x ∷ []) few has later = grind (arith, nat_tests)
apart ord count (x ∷ y ∷ row) few has later = absurd (omega arith)

module _ (rows : List (List ℕ)) (single : AreSingle rows) where
  range_once : (first count : ℕ)
      → IsPermutation (flat_map (λ list. list) (map (places rows) (range_with_len first count)))
      (filter (λ at. list_any (λ o. is_among o (get_or rows at [])) (range_with_len first count)) (range_with_len 0 (length rows)))
  range_once first zero = subst (IsPermutation []) (sym (none_pass (range_with_len 0 (length rows)))) (IsPermutation-refl [])
  range_once first (suc count) =
      let all = range_with_len 0 (length rows) in
      let here = λ (at : ℕ). is_among first (get_or rows at []) in
      let later = λ (at : ℕ). list_any (λ o. is_among o (get_or rows at [])) (range_with_len (first + 1) count) in
      let rest = flat_map (λ (list : List ℕ). list) (map (places rows) (range_with_len (first + 1) count)) in
      IsPermutation-trans (places rows first ++ rest) (filter here all ++ filter later all) (filter (λ at. here at || later at) all)
      (subst (λ list. IsPermutation (places rows first ++ rest) (list ++ filter later all)) (places_passing rows first)
      (IsPermutation-append_right (places rows first) rest (filter later all) (range_once (first + 1) count)))
      (IsPermutation-sym (filter (λ at. here at || later at) all) (filter here all ++ filter later all)
      (IsPermutation-filter_either here later
      (λ at has more. apart first count (get_or rows at []) (single_at rows at single) has (sym (range_among (first + 1) count (get_or rows at [])) ∙ more)) all))

  pub span_once : (count first past : ℕ) → first ≤ past → past ≤ count
      → IsPermutation (flat_map (λ list. list) (slice_range (map (places rows) (range_with_len 0 count)) first past))
      (filter (λ at. has_from_to first past (get_or rows at [])) (range_with_len 0 (length rows)))
  span_once count first past order within =
      let there : first + (past - first) ≡ past = omega arith in
      let all = range_with_len 0 (length rows) in
      let some = filter_agree (λ at. list_any (λ o. is_among o (get_or rows at [])) (range_with_len first (past - first))) (λ at. has_from_to first past (get_or rows at []))
      (λ at. range_among first (past - first) (get_or rows at []) ∙ ap (λ n. has_from_to first n (get_or rows at [])) there) all in
      subst (λ list. IsPermutation list (filter (λ at. has_from_to first past (get_or rows at [])) all))
      (sym (ap (flat_map (λ (list : List ℕ). list)) (slice_range-map-range (places rows) [] count first past order within)))
      (subst (IsPermutation (flat_map (λ (list : List ℕ). list) (map (places rows) (range_with_len first (past - first))))) some (range_once first (past - first)))
