-- The positions of terms, by their ordinals.
use Rattle.std.proofs.Common.{◌≡◌, ℕ, zero, suc, ◌+◌, ◌-◌, ◌<◌, ◌≤◌, ◌⊎◌, inl, inr, min, Bool, true, false, ◌&&◌, ◌||◌, ◌==◌, nat_lt, nat_le, List, [], ◌∷◌, length, get_or, map, slice_range, All, not, refl, sym, ap, ap₂, ◌∙◌, subst, arith, eq-eqb, ne_eqb, zero-add, add-zero, true≢false}
use Rattle.std.proofs.lemmas.Bool.{cases_order, cases_lt}
use Rattle.std.proofs.lemmas.Bool.Decides.{nat_tests}
use Rattle.std.proofs.lemmas.Cmp.{nat_list_cmp_total, tied_itself}
use Rattle.std.proofs.lemmas.List.{get_or_past, get_or_default, get_or-map, length-map}
use Rattle.std.proofs.lemmas.List.Folds.{list_any-append}
use Rattle.std.specs.List.{list_any, flat_map, range_with_len}
use Rattle.std.specs.Ordering.{is_eq, ordering_reverse}
use Rattle.fc_docset.specs.Positions.{positions}
use Rattle.fc_spec.specs.documents.Val.{Text, text_cmp, same_text}
use Rattle.fc_spec.specs.documents.Columns.{IsAscending}
use Rattle.fc_spec.specs.words.Lists.{is_empty}
use Rattle.fc_lists.specs.Among.{is_among}
use Rattle.fc_column.specs.Terms.{has_text, has_from_to, ordinals_in}
use Rattle.fc_column.specs.Dictionary.{term_at}
use Rattle.std.specs.List.Sorted.{IsStrictlyIncreasing}
use Rattle.fc_column.proofs.TermLists.{row_rises}
use Rattle.fc_lists.proofs.Cuts.{slice_range-map-range}
use Rattle.fc_column.proofs.InOrder.{any_at}
use Rattle.fc_lists.proofs.Marks.{among_at}
use Rattle.fc_lists.proofs.OfNumbers.{is_among-positions}

-- ---- two terms are one where their ordinals are
module _ (terms : List Text) (sorted : IsAscending text_cmp terms) where
  same_term : (i j : ℕ) → i < length terms → j < length terms → (i == j) ≡ same_text (term_at terms i) (term_at terms j)
  same_term i j i_within j_within = go (cases_order i j)
    where
      go : ((i ≡ j) ⊎ ((i < j) ⊎ (j < i))) → (i == j) ≡ same_text (term_at terms i) (term_at terms j)
      go (inl same) =
          eq-eqb i j same ∙ sym (ap (λ k. same_text (term_at terms i) (term_at terms k)) (sym same) ∙ ap is_eq (tied_itself nat_list_cmp_total (term_at terms i)))
      go (inr (inl before)) = ne_eqb i j (λ same. omega arith) ∙ sym (ap is_eq (sorted i j [] before j_within))
      go (inr (inr after)) =
          ne_eqb i j (λ same. omega arith)
          ∙ sym (ap is_eq (nat_list_cmp_total.antisymm (term_at terms i) (term_at terms j) ∙ ap ordering_reverse (sorted j i [] after i_within)))

  row_has : (ord : ℕ) (row : List ℕ) → ord < length terms → All (λ o. o < length terms) row → is_among ord row ≡ has_text (term_at terms ord) (map (term_at terms) row)
  row_has ord [] inside within = refl
  row_has ord (o ∷ row) inside within =
      ap₂ (λ a b. a || b) (same_term ord o inside (within 0 o (omega arith))) (row_has ord row inside (λ k d below. within (suc k) d (omega arith)))

  pub rows_have : (ord : ℕ) (rows : List (List ℕ)) → ord < length terms → All (All (λ o. o < length terms)) rows
      → map (is_among ord) rows ≡ map (has_text (term_at terms ord)) (map (map (term_at terms)) rows)
  rows_have ord [] inside within = refl
  rows_have ord (row ∷ rows) inside within =
      ap₂ (λ b l. b ∷ l) (row_has ord row inside (within 0 row (omega arith))) (rows_have ord rows inside (λ k d below. within (suc k) d (omega arith)))

-- ---- numbers of a range among others
any_or : {X : Type 0} (p q : X → Bool) (xs : List X) → list_any (λ x. p x || q x) xs ≡ (list_any p xs || list_any q xs)
any_or p q [] = refl
any_or p q (x ∷ xs) = ap (λ b. (p x || q x) || b) (any_or p q xs) ∙ go (p x) (q x) (list_any p xs) (list_any q xs)
  where
    go : (a b c d : Bool) → ((a || b) || (c || d)) ≡ ((a || c) || (b || d))
    go true b c d = refl
    go false true true d = refl
    go false true false d = refl
    go false false c d = refl

any_false : {X : Type 0} (xs : List X) → list_any (λ x. false) xs ≡ false
any_false [] = refl
any_false (x ∷ xs) = any_false xs

range_has : (lo x count : ℕ) → list_any (λ o. o == x) (range_with_len lo count) ≡ (nat_le lo x && nat_lt x (lo + count))
range_has lo x zero = none
  where
    none : false ≡ (nat_le lo x && nat_lt x (lo + 0))
    none = rw add-zero (grind (arith, nat_tests))
range_has lo x (suc count) = ap (λ b. (lo == x) || b) (range_has (lo + 1) x count) ∙ next
  where
    next : ((lo == x) || (nat_le (lo + 1) x && nat_lt x (lo + 1 + count))) ≡ (nat_le lo x && nat_lt x (lo + suc count))
    next = grind (arith, nat_tests)

pub range_among : (lo count : ℕ) (row : List ℕ) → list_any (λ o. is_among o row) (range_with_len lo count) ≡ has_from_to lo (lo + count) row
range_among lo count [] = any_false (range_with_len lo count)
range_among lo count (x ∷ row) =
    any_or (λ o. o == x) (λ o. is_among o row) (range_with_len lo count)
    ∙ ap₂ (λ a b. a || b) (range_has lo x count) (range_among lo count row)

-- ---- the positions of some ordinals
abbrev pub places : List (List ℕ) → ℕ → List ℕ
places rows ord = positions (map (is_among ord) rows)

among_flat : (at : ℕ) (lists : List (List ℕ)) → is_among at (flat_map (λ list. list) lists) ≡ list_any (is_among at) lists
among_flat at [] = refl
among_flat at (list ∷ lists) =
    list_any-append (λ number. at == number) list (flat_map (λ l. l) lists) ∙ ap (λ b. is_among at list || b) (among_flat at lists)

among_places : (rows : List (List ℕ)) (at : ℕ) (ords : List ℕ) → list_any (is_among at) (map (places rows) ords) ≡ list_any (λ o. is_among o (get_or rows at [])) ords
among_places rows at [] = refl
among_places rows at (o ∷ ords) =
    ap₂ (λ a b. a || b)
    (ap (λ n. is_among n (places rows o)) (sym (zero-add at)) ∙ is_among-positions 0 (map (is_among o) rows) at ∙ sym (any_at (λ number. o == number) rows at))
    (among_places rows at ords)

pub span_among : (rows : List (List ℕ)) (count lo hi at : ℕ) → lo ≤ hi → hi ≤ count
    → is_among at (flat_map (λ list. list) (slice_range (map (places rows) (range_with_len 0 count)) lo hi)) ≡ has_from_to lo hi (get_or rows at [])
span_among rows count lo hi at order within =
    let there : lo + (hi - lo) ≡ hi = omega arith in
    ap (λ (l : List (List ℕ)). is_among at (flat_map (λ list. list) l)) (slice_range-map-range (places rows) [] count lo hi order within)
    ∙ among_flat at (map (places rows) (range_with_len lo (hi - lo)))
    ∙ among_places rows at (range_with_len lo (hi - lo))
    ∙ range_among lo (hi - lo) (get_or rows at [])
    ∙ ap (λ n. has_from_to lo n (get_or rows at [])) there

-- no ordinal is past the last term
pub from_to_min : (lo hi count : ℕ) (row : List ℕ) → All (λ o. o < count) row → has_from_to lo (min hi count) row ≡ has_from_to lo hi row
from_to_min lo hi count [] within = refl
from_to_min lo hi count (x ∷ row) within =
    ap₂ (λ a b. a || b) (here (within 0 x (omega arith))) (from_to_min lo hi count row (λ k d below. within (suc k) d (omega arith)))
  where
    here : x < count → (nat_le lo x && nat_lt x (min hi count)) ≡ (nat_le lo x && nat_lt x hi)
    here below = grind (arith, nat_tests)

pub from_to_none : (lo hi : ℕ) (row : List ℕ) → hi ≤ lo → has_from_to lo hi row ≡ false
from_to_none lo hi [] crossed = refl
from_to_none lo hi (x ∷ row) crossed = ap₂ (λ a b. a || b) here (from_to_none lo hi row crossed)
  where
    here : (nat_le lo x && nat_lt x hi) ≡ false
    here = grind (arith, nat_tests)

-- ---- the rows at any position
pub row_at_map : {X Y : Type 0} (f : X → Y) (rows : List (List X)) (at : ℕ) → get_or (map (map f) rows) at [] ≡ map f (get_or rows at [])
row_at_map f [] at = refl
row_at_map f (row ∷ rows) zero = refl
row_at_map f (row ∷ rows) (suc at) = row_at_map f rows at

pub all_at : {X : Type 0} (P : X → Type 0) (rows : List (List X)) (at : ℕ) → All (All P) rows → All P (get_or rows at [])
all_at P [] at all = λ k d inside. absurd (omega arith)
all_at P (row ∷ rows) zero all = all 0 row (omega arith)
all_at P (row ∷ rows) (suc at) all = all_at P rows at (λ k d below. all (suc k) d (omega arith))

-- a position that is listed is one of the column
pub listed_within : (positions : List ℕ) (lo hi : ℕ) (column : List (List Text)) → ((at : ℕ) → is_among at positions ≡ has_from_to lo hi (ordinals_in column (get_or column at [])))
    → All (λ at. at < length column) positions
listed_within positions lo hi column listed k d inside = elim (cases_lt (get_or positions k d) (length column)) [
  | inl within ↦ within
  | inr past ↦
      let at = get_or positions k d in
      let among = among_at at positions k inside (get_or_default positions k 0 d inside) in
      let none = listed at ∙ ap (λ texts. has_from_to lo hi (ordinals_in column texts)) (get_or_past column at [] past) in
      absurd (true≢false (sym among ∙ none))
]

-- a test that fails where a position has nothing, position by position
pub tested_at : {X : Type 0} (p : List X → Bool) (rows : List (List X)) (at : ℕ) → p [] ≡ false → p (get_or rows at []) ≡ get_or (map p rows) at false
tested_at p [] at none = none
tested_at p (row ∷ rows) zero none = refl
tested_at p (row ∷ rows) (suc at) none = tested_at p rows at none

-- the ordinals of each position rise
pub rows_rise : (terms : List Text) → IsAscending text_cmp terms → (rows : List (List ℕ)) → All (All (λ ord. ord < length terms)) rows
    → All (IsAscending text_cmp) (map (map (term_at terms)) rows) → All IsStrictlyIncreasing rows
rows_rise terms sorted rows within ascending k d inside =
    let row = get_or rows k d in
    row_rises terms sorted row (within k d inside)
    (subst (IsAscending text_cmp) (get_or-map (map (term_at terms)) rows k d (map (term_at terms) d) inside)
    (ascending k (map (term_at terms) d) (omega (arith, length-map rows (map (term_at terms))))))

-- which positions have something, whatever it is
pub some_map : {X Y : Type 0} (f : X → Y) (rows : List (List X)) → map (λ row. not (is_empty row)) (map (map f) rows) ≡ map (λ row. not (is_empty row)) rows
some_map f [] = refl
some_map f (row ∷ rows) = ap₂ (λ n l. not (n == 0) ∷ l) (length-map row f) (some_map f rows)
