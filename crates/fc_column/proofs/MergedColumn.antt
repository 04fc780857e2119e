-- The column that a merger makes of its numbers.
use Rattle.std.proofs.Common.{◌≡◌, ℕ, suc, ◌<◌, true, List, [], ◌∷◌, length, get_or, map, All, refl, sym, ap, ap₂, subst, ◌∙◌, arith}
use Rattle.std.specs.List.Sorted.{IsPermutation}
use Rattle.std.proofs.lemmas.List.{get_or-map, length-map}
use Rattle.std.proofs.lemmas.List.Sorted.{All-permutation, IsPermutation-sym, IsPermutation-map, list_any-IsPermutation}
use Rattle.fc_spec.specs.documents.Val.{Text, same_text}
use Rattle.fc_column.specs.Dictionary.{term_at}
use Rattle.fc_column.specs.MergedTerms.{ArePlaced, HaveOneText}
use Rattle.fc_column.specs.Terms.{has_text}
use Rattle.fc_column.specs.Numbering.{has_number, text_numbered, texts_numbered}
use Rattle.fc_column.proofs.MergedNumbers.{by_number}

pub sorted_below : (texts sorted : List (Text × ℕ)) (count : ℕ) → IsPermutation texts sorted → All (λ one. one.1 < count) texts → All (λ one. one.1 < count) sorted
sorted_below texts sorted count same below = All-permutation (λ one. one.1 < count) texts sorted same below

pub sorted_one : (texts sorted : List (Text × ℕ)) → IsPermutation texts sorted → HaveOneText texts → HaveOneText sorted
sorted_one texts sorted same one =
    All-permutation (λ a. All (λ b. a.1 ≡ b.1 → a.0 ≡ b.0) sorted) texts sorted same
    (λ k d inside. All-permutation (λ b. (get_or texts k d).1 ≡ b.1 → (get_or texts k d).0 ≡ b.0) texts sorted same (one k d inside))

-- a number has its place, where the term is its text
pub record HasPlace (texts : List (Text × ℕ)) (terms : List Text) (places : List ℕ) (n : ℕ) : Type 0 where
  pub within : get_or places n 0 < length terms
  pub is : term_at terms (get_or places n 0) ≡ text_numbered texts n

pub all_placed : (texts sorted : List (Text × ℕ)) (terms : List Text) (places : List ℕ) (rows : List (List ℕ)) → IsPermutation texts sorted → ArePlaced terms places sorted
    → All (All (λ n. has_number n texts ≡ true)) rows → All (All (HasPlace texts terms places)) rows
all_placed texts sorted terms places rows same placed numbered k d inside j e there =
    let n = get_or (get_or rows k d) j e in
    let all = All-permutation (λ one. (get_or places one.1 0 < length terms) × (term_at terms (get_or places one.1 0) ≡ one.0)) sorted texts (IsPermutation-sym texts sorted same) placed in
    let found = by_number (λ m t. (get_or places m 0 < length terms) × (term_at terms (get_or places m 0) ≡ t)) texts n all (numbered k d inside j e there) in
    record { within = found.0; is = found.1 }

pub numbers_within : (texts : List (Text × ℕ)) (rows : List (List ℕ)) (count : ℕ) → All (λ one. one.1 < count) texts → All (All (λ n. has_number n texts ≡ true)) rows → All (All (λ n. n < count)) rows
numbers_within texts rows count below numbered k d inside j e there = by_number (λ m t. m < count) texts (get_or (get_or rows k d) j e) below (numbered k d inside j e there)

row_placed : (texts : List (Text × ℕ)) (terms : List Text) (places row : List ℕ) → All (HasPlace texts terms places) row → map (term_at terms) (map (λ n. get_or places n 0) row) ≡ map (text_numbered texts) row
row_placed texts terms places [] has = refl
row_placed texts terms places (n ∷ row) has = ap₂ (λ t l. t ∷ l) (has 0 n (omega arith)).is (row_placed texts terms places row (λ k d inside. has (suc k) d (omega arith)))

pub rows_placed : (texts : List (Text × ℕ)) (terms : List Text) (places : List ℕ) (rows : List (List ℕ)) → All (All (HasPlace texts terms places)) rows
    → map (map (term_at terms)) (map (map (λ n. get_or places n 0)) rows) ≡ map (map (text_numbered texts)) rows
rows_placed texts terms places [] has = refl
rows_placed texts terms places (row ∷ rows) has =
    ap₂ (λ r l. r ∷ l) (row_placed texts terms places row (has 0 row (omega arith))) (rows_placed texts terms places rows (λ k d inside. has (suc k) d (omega arith)))

pub places_within : (texts : List (Text × ℕ)) (terms : List Text) (places : List ℕ) (rows : List (List ℕ)) → All (All (HasPlace texts terms places)) rows
    → All (All (λ ord. ord < length terms)) (map (map (λ n. get_or places n 0)) rows)
places_within texts terms places rows has k d inside j e within =
    let size = length-map rows (map (λ n. get_or places n 0)) in
    let row = get_or rows k d in
    let is : get_or (map (map (λ n. get_or places n 0)) rows) k d ≡ map (λ n. get_or places n 0) row = get_or-map (map (λ n. get_or places n 0)) rows k d d (omega arith) in
    let long = ap length is ∙ length-map row (λ n. get_or places n 0) in
    subst (λ ord. ord < length terms) (sym (ap (λ l. get_or l j e) is ∙ get_or-map (λ n. get_or places n 0) row j e e (omega arith)))
    (has k d (omega arith) j e (omega arith)).within

pub same_texts : (t : Text) (texts sorted : List (Text × ℕ)) → IsPermutation texts sorted → has_text t (texts_numbered sorted) ≡ has_text t (texts_numbered texts)
same_texts t texts sorted same = sym (list_any-IsPermutation (same_text t) (texts_numbered texts) (texts_numbered sorted) (IsPermutation-map (λ (one : Text × ℕ). one.0) texts sorted same))
