-- Rows of which none has more than one item.
use Rattle.std.proofs.Common.{◌≡◌, ℕ, ◌+◌, ◌*◌, ◌<◌, ◌≤◌, Bool, false, cond, List, [], ◌∷◌, length, map, count_by, not, All, refl, sym, ap, ap₂, ◌∙◌, arith, length-append, ne_eqb}
use Rattle.std.specs.List.{range_with_len}
use Rattle.std.proofs.lemmas.List.Elements.{All-nil, All-cons, All-head, All-tail}
use Rattle.std.proofs.lemmas.List.Sums.{sum_by-cons}
use Rattle.fc_spec.specs.documents.Bits.{has_bit}
use Rattle.fc_spec.specs.words.Lists.{is_empty}
use Rattle.fc_lists.specs.Flat.{flat}
use Rattle.fc_lists.specs.Ranks.{bits_below}
use Rattle.fc_lists.specs.Rows.{row_at}
use Rattle.fc_lists.proofs.BitRows.{row_some}
use Rattle.fc_lists.proofs.FlatRows.{count_all_bits, flat_all}

-- ---- rows with items, and their items
abbrev has_some : {T : Type 0} → List T → Bool
has_some row = not (is_empty row)

abbrev one_if : Bool → ℕ
one_if b = cond b 1 0

module _ {T : Type 0} where
  one_of : (x : T) (row : List T) → one_if (has_some (x ∷ row)) ≡ 1
  one_of x row = ap (λ b. one_if (not b)) (ne_eqb (length (x ∷ row)) 0 (λ none. omega arith))

  count-cons : (row : List T) (rows : List (List T)) → count_by has_some (row ∷ rows) ≡ one_if (has_some row) + count_by has_some rows
  count-cons row rows = sum_by-cons (λ r. one_if (has_some r)) row rows

  -- a row with items has one at least
  some_items : (rows : List (List T)) → count_by has_some rows ≤ length (flat rows)
  some_items [] = omega arith
  some_items ([] ∷ rows) = omega (arith, count-cons [] rows, some_items rows)
  some_items ((x ∷ row) ∷ rows) =
      omega (arith, count-cons (x ∷ row) rows, one_of x row, length-append (x ∷ row) (flat rows), some_items rows)

  single_items : (rows : List (List T)) → All (λ row. length row ≤ 1) rows → length (flat rows) ≡ count_by has_some rows
  single_items [] single = refl
  single_items ([] ∷ rows) single =
      omega (arith, count-cons [] rows, single_items rows (All-tail (λ row. length row ≤ 1) [] rows single))
  single_items ((x ∷ row) ∷ rows) single =
      let one = All-head (λ row. length row ≤ 1) (x ∷ row) rows single in
      let rest = single_items rows (All-tail (λ row. length row ≤ 1) (x ∷ row) rows single) in
      omega (arith, count-cons (x ∷ row) rows, one_of x row, length-append (x ∷ row) (flat rows), one, rest)

  items_single : (rows : List (List T)) → length (flat rows) ≡ count_by has_some rows → All (λ row. length row ≤ 1) rows
  items_single [] same = All-nil (λ row. length row ≤ 1)
  items_single ([] ∷ rows) same =
      All-cons (λ row. length row ≤ 1) [] rows (omega arith) (items_single rows (omega (arith, same, count-cons [] rows)))
  items_single ((x ∷ row) ∷ rows) same =
      let count = count-cons (x ∷ row) rows ∙ ap (λ n. n + count_by has_some rows) (one_of x row) in
      let size = length-append (x ∷ row) (flat rows) in
      let some = some_items rows in
      All-cons (λ row. length row ≤ 1) (x ∷ row) rows (omega (arith, same, count, size, some)) (items_single rows (omega (arith, same, count, size, some)))

-- ---- the rows with items are those whose bit is 1
module _ {T : Type 0} (words : List ℕ) (lists : List (List T)) (some : All (λ list. 0 < length list) lists) (whole : bits_below (64 * length words) words ≡ length lists) where
  count_rows : (ks : List ℕ) → count_by has_some (map (row_at words lists) ks) ≡ count_by (λ here. here) (map (has_bit words) ks)
  count_rows [] = refl
  count_rows (k ∷ ks) =
      count-cons (row_at words lists k) (map (row_at words lists) ks)
      ∙ ap₂ (λ b n. one_if b + n) (row_some words lists k some whole) (count_rows ks)
      ∙ sym (sum_by-cons (λ here. one_if here) (has_bit words k) (map (has_bit words) ks))

  module _ (len : ℕ) (none : (at : ℕ) → len ≤ at → has_bit words at ≡ false) where
    count_lists : count_by has_some (map (row_at words lists) (range_with_len 0 len)) ≡ length lists
    count_lists = count_rows (range_with_len 0 len) ∙ count_all_bits words len none ∙ whole

    pub rows_single : length (flat lists) ≡ length lists → All (λ row. length row ≤ 1) (map (row_at words lists) (range_with_len 0 len))
    rows_single same =
        items_single (map (row_at words lists) (range_with_len 0 len)) (ap length (flat_all words lists whole len none) ∙ same ∙ sym count_lists)

    pub lists_single : All (λ row. length row ≤ 1) (map (row_at words lists) (range_with_len 0 len)) → length (flat lists) ≡ length lists
    lists_single single =
        sym (ap length (flat_all words lists whole len none)) ∙ single_items (map (row_at words lists) (range_with_len 0 len)) single ∙ count_lists
