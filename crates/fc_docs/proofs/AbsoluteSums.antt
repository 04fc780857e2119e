-- The absolute values of the integers that are kept, field by field.
use Rattle.std.proofs.Common.{◌≡◌, ℕ, ◌+◌, ◌<◌, ◌≤◌, List, [], ◌∷◌, Bool, true, cond, length, map, get_or, set, slice_index, nat_abs, eqb, nat_le, All, Decides, Some, None, arith, sym, ◌∙◌, ap, refl, subst, inl, inr}
use Rattle.std.specs.List.{sum_by, list_all, range_with_len}
use Rattle.std.proofs.lemmas.Bool.{cases_eq, cases_lt}
use Rattle.std.proofs.lemmas.Bool.Decides.{nat_tests, same_from_decides, Decides-by_and, Decides-like}
use Rattle.std.proofs.lemmas.List.{get_or_past, get_or-set_same, get_or-set_other, length-set}
use Rattle.std.proofs.lemmas.List.Elements.{All-from_get_or}
use Rattle.std.proofs.lemmas.List.FromFn.{length-range_with_len, get_or-range_with_len}
use Rattle.std.proofs.lemmas.List.Sums.{sum_by-cons}
use Rattle.fc_spec.specs.documents.Columns.{longs_in}
use Rattle.fc_spec.specs.documents.Document.{Document}
use Rattle.fc_base.specs.declared.value.Val.{Val}
use Rattle.fc_base.specs.declared.value.Val.TheVariants.{Text, Long}
use Rattle.fc_base.specs.View.{val_view}
use Rattle.fc_docs.specs.Fields.{FieldValues, Ascend, values_at}
use Rattle.fc_docs.specs.Sums.{absolute_value, absolute_row, absolute_sum, absolute_kept}
use Rattle.fc_docs.proofs.Entries.{Entry, here, skip, below, other}

-- the sum of a row, value by value
pub row_by_value : (values : List Val) → absolute_row (map val_view values) ≡ sum_by (λ v. absolute_value (val_view v)) values
row_by_value [] = refl
row_by_value (Text name ∷ values) =
    let all = sum_by-cons (λ v. absolute_value (val_view v)) (Text name) values in
    omega (arith, row_by_value values)
row_by_value (Long number ∷ values) =
    let first = sum_by-cons nat_abs number (longs_in (map val_view values)) in
    let all = sum_by-cons (λ v. absolute_value (val_view v)) (Long number) values in
    omega (arith, row_by_value values)

-- what an entry adds to the sum of the field of this number
abbrev pub added_by : ℕ → Entry → ℕ
added_by n e = cond (eqb n e.0) (absolute_row e.1) 0

-- what all entries add to it
abbrev pub added : FieldValues → ℕ → ℕ
added es n = sum_by (added_by n) es

pub added_here : (e : Entry) (es : FieldValues) (n : ℕ) → n ≡ e.0 → added (e ∷ es) n ≡ absolute_row e.1 + added es n
added_here e es n is =
    let test : eqb n e.0 ≡ true = grind (arith, nat_tests) in
    sum_by-cons (added_by n) e es ∙ ap (λ b. cond b (absolute_row e.1) 0 + added es n) test

pub added_elsewhere : (e : Entry) (es : FieldValues) (n : ℕ) → (n ≡ e.0 → ⊥) → added (e ∷ es) n ≡ added es n
added_elsewhere e es n apart = sum_by-cons (added_by n) e es ∙ ap (λ b. cond b (absolute_row e.1) 0 + added es n) (other n e.0 apart) ∙ omega arith

added_at : (a : ℕ) (es : FieldValues) (n : ℕ) → Ascend a es → added es n ≡ absolute_row (values_at es n)
added_at a [] n up = refl
added_at a (e ∷ es) n up =
    elim (cases_eq n e.0) [
      | inl is ↦
          let none : values_at es n ≡ [] = below (e.0 + 1) n es up.1 (omega arith) in
          let rest : added es n ≡ 0 = added_at (e.0 + 1) es n up.1 ∙ ap absolute_row none in
          let first = added_here e es n is in
          let row : absolute_row (values_at (e ∷ es) n) ≡ absolute_row e.1 = ap (λ k. absolute_row (values_at (e ∷ es) k)) is ∙ ap absolute_row (here e es) in
          omega arith
      | inr apart ↦ added_elsewhere e es n apart ∙ added_at (e.0 + 1) es n up.1 ∙ ap absolute_row (sym (skip e es n apart))
    ]

-- all entries add to the sum of a field its values
pub added_is_kept : (es : FieldValues) (n : ℕ) → Ascend 0 es → added es n ≡ absolute_kept es n
added_is_kept es n up = added_at 0 es n up

set_here : (sums : List ℕ) (n s : ℕ) → (length sums ≤ n → s ≡ 0) → slice_index (set sums n s) n ≡ s
set_here sums n s past =
    elim (cases_lt n (length sums)) [
      | inl below ↦ get_or-set_same sums n s 0 below
      | inr more ↦ get_or_past (set sums n s) n 0 (rw (length-set sums n s) more) ∙ sym (past more)
    ]

-- of the entries that are left the first adds nothing past the last sum, as all entries do
pub nothing_past : (sums start : List ℕ) (all left more : FieldValues) (e : Entry) → left ≡ e ∷ more → length sums ≡ length start → length sums ≤ e.0 → slice_index sums e.0 + added left e.0 ≡ slice_index start e.0 + added all e.0 → added all e.0 ≡ 0 → absolute_row e.1 ≡ 0
nothing_past sums start all left more e is same_length past so_far none =
    let first = ap (λ es. added es e.0) is ∙ added_here e more e.0 refl in
    let now = get_or_past sums e.0 0 past in
    let before = get_or_past start e.0 0 (omega arith) in
    omega arith

-- what has been added and what is left to be, after one more entry
pub one_more : (sums : List ℕ) (left more : FieldValues) (e : Entry) (n : ℕ) → left ≡ e ∷ more → (length sums ≤ e.0 → absolute_row e.1 ≡ 0)
    → slice_index (set sums e.0 (slice_index sums e.0 + absolute_row e.1)) n + added more n ≡ slice_index sums n + added left n
one_more sums left more e n is past =
    let row = absolute_row e.1 in
    elim (cases_eq n e.0) [
      | inl here ↦
          let set_is = set_here sums e.0 (slice_index sums e.0 + row) (λ beyond. ap (λ k. slice_index sums e.0 + k) (past beyond) ∙ omega (arith, get_or_past sums e.0 0 beyond)) in
          let set_at : slice_index (set sums e.0 (slice_index sums e.0 + row)) n ≡ slice_index sums n + row =
          ap (λ k. slice_index (set sums e.0 (slice_index sums e.0 + row)) k) here ∙ set_is ∙ ap (λ k. slice_index sums k + row) (sym here) in
          let first = ap (λ es. added es n) is ∙ added_here e more n here in
          omega arith
      | inr apart ↦
          let set_at = get_or-set_other sums e.0 n (slice_index sums e.0 + row) 0 apart in
          let first = ap (λ es. added es n) is ∙ added_elsewhere e more n apart in
          omega arith
    ]

-- a sum stays within the limit where the one that is set does
pub within_limit : (sums : List ℕ) (k s limit n : ℕ) → s ≤ limit → slice_index sums n ≤ limit → slice_index (set sums k s) n ≤ limit
within_limit sums k s limit n fits was =
    elim (cases_eq n k) [
      | inl here ↦ elim (cases_lt k (length sums)) [
        | inl below ↦ rw (here, get_or-set_same sums k s 0 below) fits
        | inr more ↦ rw (here, get_or_past (set sums k s) k 0 (rw (length-set sums k s) more)) (omega arith)
      ]
      | inr apart ↦ rw (get_or-set_other sums k n s 0 apart) was
    ]

nat_le_decides : (n limit : ℕ) → Decides (nat_le n limit) (n ≤ limit)
nat_le_decides n limit = ((λ is. grind (arith, nat_tests)), (λ is. grind (arith, nat_tests)))

all_among : (f : ℕ → ℕ) (limit count : ℕ) → ((n : ℕ) → f n ≤ limit) → All (λ n. f n ≤ limit) (range_with_len 0 count)
all_among f limit count every = λ k d within. every (get_or (range_with_len 0 count) k d)

all_from_among : (f : ℕ → ℕ) (limit count : ℕ) → ((n : ℕ) → count ≤ n → f n ≤ limit) → All (λ n. f n ≤ limit) (range_with_len 0 count) → (n : ℕ) → f n ≤ limit
all_from_among f limit count past among n =
    elim (cases_lt n count) [
      | inl below ↦ subst (λ k. f k ≤ limit) (get_or-range_with_len 0 count n 0 below ∙ omega arith) (among n 0 (rw (length-range_with_len 0 count) below))
      | inr more ↦ past n more
    ]

-- every sum is within the limit where each of the first ones is
pub fits_below : (f : ℕ → ℕ) (limit count : ℕ) → ((n : ℕ) → count ≤ n → f n ≤ limit) → (r : Bool) → Decides r ((n : ℕ) → f n ≤ limit) → r ≡ list_all (λ n. nat_le (f n) limit) (range_with_len 0 count)
fits_below f limit count past r decides =
    let tests : Decides (list_all (λ n. nat_le (f n) limit) (range_with_len 0 count)) (All (λ n. f n ≤ limit) (range_with_len 0 count)) =
    Decides-by_and (λ n. nat_le (f n) limit) (λ n. f n ≤ limit) (list_all (λ n. nat_le (f n) limit)) (λ n. nat_le_decides (f n) limit) refl (λ n more. refl) (range_with_len 0 count) in
    same_from_decides r (list_all (λ n. nat_le (f n) limit) (range_with_len 0 count)) (Decides-like r (all_among f limit count) (all_from_among f limit count past) decides) tests

pub sum_grown : (total sum limit : ℕ) → total ≡ sum → total ≤ limit → Some total ≡ cond (nat_le sum limit) (Some sum) None
sum_grown total sum limit is within = grind (arith, nat_tests)

pub sum_outgrown : (sum limit : ℕ) → limit < sum → None ≡ cond (nat_le sum limit) (Some sum) None
sum_outgrown sum limit past = grind (arith, nat_tests)

pub not_more : (sum limit : ℕ) → cond (nat_le sum limit) (Some sum) None ≡ None → limit < sum
not_more sum limit is = grind (arith, nat_tests)

pub none_past : (d : Document) (n : ℕ) → length d ≤ n → absolute_sum d n ≡ 0
none_past d n past = ap absolute_row (get_or_past d n [] past)

pub sum_within : (sums : List ℕ) (limit n : ℕ) → All (λ s. s ≤ limit) sums → slice_index sums n ≤ limit
sum_within sums limit n within =
    elim (cases_lt n (length sums)) [
      | inl below ↦ within n 0 below
      | inr past ↦ rw (get_or_past sums n 0 past) (omega arith)
    ]

pub each_within : (sums : List ℕ) (limit : ℕ) → ((n : ℕ) → slice_index sums n ≤ limit) → All (λ s. s ≤ limit) sums
each_within sums limit within = All-from_get_or (λ s. s ≤ limit) sums 0 (λ n below. within n)
