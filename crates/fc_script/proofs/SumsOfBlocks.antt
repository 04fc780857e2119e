-- The sums of a block's documents, one after another.
use Rattle.std.proofs.Common.{◌≡◌, ℕ, ◌+◌, ◌<◌, ◌≤◌, List, [], ◌∷◌, ◌++◌, length, get_or, take, drop, false, refl, sym, ◌∙◌, ap, arith}
use Rattle.std.specs.Prelude.{nat_le, nat_abs, All}
use Rattle.std.specs.List.{list_all, range_with_len, sum_by}
use Rattle.std.proofs.lemmas.Bool.Decides.{nat_tests}
use Rattle.std.proofs.lemmas.List.{take_more, take_all, take-append-drop, length-append, get_or_push, get_or_append_left}
use Rattle.std.proofs.lemmas.List.Sums.{sum_by-append}
use Rattle.fc_spec.specs.documents.Document.{Document, values_of}
use Rattle.fc_spec.specs.documents.Columns.{longs_in}
use Rattle.fc_spec.specs.scripts.ScriptTotals.{absolute_total, total_limit}
use Rattle.fc_docs.specs.Sums.{absolute_sum}
use Rattle.fc_script.proofs.InRange.{still_fails}

-- one document behind others
pub total-push : (ds : List Document) (d : Document) (field : ℕ) → absolute_total (ds ++ d ∷ []) field ≡ absolute_total ds field + absolute_sum d field
total-push ds d field = sum_by-append (λ e. sum_by nat_abs (longs_in (values_of e field))) ds (d ∷ []) ∙ omega arith

pub total-append : (ds more : List Document) (field : ℕ) → absolute_total (ds ++ more) field ≡ absolute_total ds field + absolute_total more field
total-append ds more field = sum_by-append (λ e. sum_by nat_abs (longs_in (values_of e field))) ds more

-- the front with the next document
pub total-more : (ds : List Document) (i : ℕ) (d : Document) (field : ℕ) → i < length ds → d ≡ get_or ds i d → absolute_total (take (i + 1) ds) field ≡ absolute_total (take i ds) field + absolute_sum d field
total-more ds i d field within is =
    ap (λ es. absolute_total es field) (take_more ds i d within ∙ ap (λ e. take i ds ++ e ∷ []) (sym is)) ∙ total-push (take i ds) d field

-- a front has no more than all
pub front-le : (ds : List Document) (n field : ℕ) → absolute_total (take n ds) field ≤ absolute_total ds field
front-le ds n field = let parts = ap (λ es. absolute_total es field) (sym (take-append-drop n ds)) ∙ total-append (take n ds) (drop n ds) field in omega arith

-- where a sum does not fit after a child, one does not after the block
pub child_fails : (old now : List ℕ) (children : List Document) (parent d : Document) (i : ℕ) → ((field : ℕ) → get_or now field 0 ≡ get_or old field 0 + absolute_total (take i children) field) → i < length children → d ≡ get_or children i d → length d ≡ length old
    → list_all (λ field. nat_le (get_or now field 0 + absolute_sum d field) total_limit) (range_with_len 0 (length d)) ≡ false
    → list_all (λ field. nat_le (get_or old field 0 + absolute_total (children ++ parent ∷ []) field) total_limit) (range_with_len 0 (length old)) ≡ false
child_fails old now children parent d i so_far within is count fails =
    still_fails (λ field. nat_le (get_or now field 0 + absolute_sum d field) total_limit) _ (length old)
    (λ k below whole. let here = so_far k in let more = total-more children i d k within is in let front = front-le children (i + 1) k in let all = total-push children parent k in grind (arith, nat_tests))
    (ap (λ n. list_all (λ field. nat_le (get_or now field 0 + absolute_sum d field) total_limit) (range_with_len 0 n)) (sym count) ∙ fails)

-- after the children, the parent decides
pub parent_decides : (old now : List ℕ) (children : List Document) (parent : Document) (i : ℕ) → ((field : ℕ) → get_or now field 0 ≡ get_or old field 0 + absolute_total (take i children) field) → length children ≤ i → length parent ≡ length old
    → list_all (λ field. nat_le (get_or now field 0 + absolute_sum parent field) total_limit) (range_with_len 0 (length parent))
    ≡ list_all (λ field. nat_le (get_or old field 0 + absolute_total (children ++ parent ∷ []) field) total_limit) (range_with_len 0 (length old))
parent_decides old now children parent i so_far past count =
    let total : (field : ℕ) → get_or now field 0 + absolute_sum parent field ≡ get_or old field 0 + absolute_total (children ++ parent ∷ []) field =
    λ field. let here = so_far field in let all = ap (λ es. absolute_total es field) (take_all i children past) in let whole = total-push children parent field in omega arith in
    λ j. list_all (λ field. nat_le (total field j) total_limit) (range_with_len 0 (count j))

-- each of a block's documents
pub parent_room : (children : List Document) (parent : Document) (n : ℕ) → All (λ d. length d ≡ n) (children ++ parent ∷ []) → length parent ≡ n
parent_room children parent n all =
    let here = all (length children) parent (omega (arith, length-append children (parent ∷ []))) in sym (ap (λ (d : Document). length d) (get_or_push children parent parent (length children) refl)) ∙ here

pub child_room : (children : List Document) (parent d : Document) (i n : ℕ) → All (λ e. length e ≡ n) (children ++ parent ∷ []) → i < length children → d ≡ get_or children i d → length d ≡ n
child_room children parent d i n all within is =
    ap (λ (e : Document). length e) (is ∙ sym (get_or_append_left children (parent ∷ []) d i within)) ∙ all i d (omega (arith, length-append children (parent ∷ [])))
