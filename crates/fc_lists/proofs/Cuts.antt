-- Lists in one list, by the places where they start.
use Rattle.std.proofs.Common.{◌≡◌, ℕ, zero, suc, ◌+◌, ◌-◌, ◌<◌, ◌≤◌, List, [], ◌∷◌, ◌++◌, length, get_or, take, drop, map, slice_range, refl, sym, ap, ap₂, ◌∙◌, arith, add-zero, zero-add}
use Rattle.std.specs.List.{flat_map, range_with_len}
use Rattle.std.specs.List.Sorted.{IsNonDecreasing}
use Rattle.std.proofs.lemmas.List.{append-nil, length-map, take_all, take-append-drop, take-take, drop-take, drop-drop, ext_get_or}
use Rattle.std.proofs.lemmas.List.Edits.{between_none, length-between, get_or-between}
use Rattle.std.proofs.lemmas.List.Concat.{flat_map-append}
use Rattle.std.proofs.lemmas.List.FromFn.{length-range_with_len, get_or-range_with_len, length-map-range_with_len, get_or-map-range_with_len, map-range_with_len_more, take-map-range_with_len}
use Rattle.fc_lists.specs.Flat.{flat}
use Rattle.fc_lists.specs.Starts.{AreStarts, cut, part_at}

pub length-cut : {T : Type 0} (starts : List ℕ) (items : List T) → length (cut starts items) ≡ length starts - 1
length-cut starts items = length-map-range_with_len (part_at starts items) 0 (length starts - 1)

pub get_or-cut : {T : Type 0} (starts : List ℕ) (items : List T) (at : ℕ) → at < length starts - 1 → get_or (cut starts items) at [] ≡ part_at starts items at
get_or-cut starts items at within = get_or-map-range_with_len (part_at starts items) 0 (length starts - 1) at at [] within (omega arith)

-- ---- lists one behind another
take_add : {T : Type 0} (n m : ℕ) (xs : List T) → take n xs ++ take m (drop n xs) ≡ take (n + m) xs
take_add n m xs =
    ap₂ (λ a b. a ++ b) (sym (take-take n (n + m) xs (omega arith))) (sym (drop-take n m xs)) ∙ take-append-drop n (take (n + m) xs)

pub slice_range_join : {T : Type 0} (items : List T) (a b c : ℕ) → a ≤ b → b ≤ c → slice_range items a b ++ slice_range items b c ≡ slice_range items a c
slice_range_join items a b c first second =
    let there : a + (b - a) ≡ b = omega arith in
    let size : (b - a) + (c - b) ≡ c - a = omega arith in
    ap (λ l. slice_range items a b ++ take (c - b) l) (ap (λ n. drop n items) (sym there) ∙ sym (drop-drop (b - a) a items))
    ∙ take_add (b - a) (c - b) (drop a items) ∙ ap (λ n. take n (drop a items)) size

joined_parts : {T : Type 0} (starts : List ℕ) (items : List T) (from count : ℕ) → IsNonDecreasing starts → from + count < length starts
    → flat_map (λ list. list) (map (part_at starts items) (range_with_len from count)) ≡ slice_range items (get_or starts from 0) (get_or starts (from + count) 0)
joined_parts starts items from zero rising within =
    sym (ap (λ n. slice_range items (get_or starts from 0) (get_or starts n 0)) (add-zero from) ∙ between_none items (get_or starts from 0))
joined_parts {T} starts items from (suc count) rising within =
    let id : List T → List T = λ list. list in
    let parts = λ (n : ℕ). map (part_at starts items) (range_with_len from n) in
    let more : suc count ≡ count + 1 = omega arith in
    let next : from + count + 1 ≡ from + suc count = omega arith in
    ap (λ n. flat_map id (parts n)) more
    ∙ ap (flat_map id) (map-range_with_len_more (part_at starts items) from count (from + count) refl)
    ∙ flat_map-append id (parts count) (part_at starts items (from + count) ∷ [])
    ∙ ap₂ (λ a b. a ++ b) (joined_parts starts items from count rising (omega arith)) (append-nil (part_at starts items (from + count)))
    ∙ slice_range_join items (get_or starts from 0) (get_or starts (from + count) 0) (get_or starts (from + count + 1) 0)
    (rising from (from + count) 0 (omega arith) (omega arith)) (rising (from + count) (from + count + 1) 0 (omega arith) (omega arith))
    ∙ ap (λ n. slice_range items (get_or starts from 0) (get_or starts n 0)) next

pub slice_range-map-range : {X : Type 0} (f : ℕ → X) (d : X) (n from to : ℕ) → from ≤ to → to ≤ n
    → slice_range (map f (range_with_len 0 n)) from to ≡ map f (range_with_len from (to - from))
slice_range-map-range f d n from to order within =
    let all = map f (range_with_len 0 n) in
    let long = length-map-range_with_len f 0 n in
    let size = length-between all from to (omega arith) in
    ext_get_or d (slice_range all from to) (map f (range_with_len from (to - from)))
    (size ∙ sym (length-map-range_with_len f from (to - from)))
    (λ k inside.
    get_or-between all from to k d (omega arith)
    ∙ get_or-map-range_with_len f 0 n (from + k) (from + k) d (omega arith) (omega arith)
    ∙ sym (get_or-map-range_with_len f from (to - from) k (from + k) d (omega arith) refl))

pub cut_span : {T : Type 0} (starts : List ℕ) (items : List T) (from to : ℕ) → IsNonDecreasing starts → 0 < length starts → from ≤ to → to ≤ length starts - 1
    → flat_map (λ list. list) (slice_range (cut starts items) from to) ≡ slice_range items (get_or starts from 0) (get_or starts to 0)
cut_span {T} starts items from to rising some order within =
    let there : from + (to - from) ≡ to = omega arith in
    ap (flat_map (λ (list : List T). list)) (slice_range-map-range (part_at starts items) [] (length starts - 1) from to order within)
    ∙ joined_parts starts items from (to - from) rising (omega arith)
    ∙ ap (λ n. slice_range items (get_or starts from 0) (get_or starts n 0)) there

-- the items of the lists before one are those from the first start up to its own
pub cut_front : {T : Type 0} (starts : List ℕ) (items : List T) (at : ℕ) → IsNonDecreasing starts → 0 < length starts → at ≤ length starts - 1
    → flat (take at (cut starts items)) ≡ slice_range items (get_or starts 0 0) (get_or starts at 0)
cut_front starts items at rising some within =
    ap flat (take-map-range_with_len (part_at starts items) 0 (length starts - 1) at within)
    ∙ joined_parts starts items 0 at rising (omega arith)
    ∙ ap (λ n. slice_range items (get_or starts 0 0) (get_or starts n 0)) (zero-add at)

pub cut_all : {T : Type 0} (starts : List ℕ) (items : List T) (size : ℕ) → AreStarts starts size
    → flat (cut starts items) ≡ slice_range items (get_or starts 0 0) size
cut_all starts items size are =
    let long = length-cut starts items in
    ap flat (sym (take_all (length starts - 1) (cut starts items) (omega arith)))
    ∙ cut_front starts items (length starts - 1) are.rising are.some (omega arith)
    ∙ ap (slice_range items (get_or starts 0 0)) are.last

-- ---- where each list has one item
single_part : {T : Type 0} (items : List T) (at : ℕ) → at < length items → slice_range items at (at + 1) ≡ get_or (map (λ item. item ∷ []) items) at []
single_part [] at within = absurd (omega arith)
single_part (x ∷ items) zero within = refl
single_part (x ∷ items) (suc at) within =
    let size : suc at + 1 - suc at ≡ at + 1 - at = omega arith in
    ap (λ n. take n (drop at items)) size ∙ single_part items at (omega arith)

pub cut_singles : {T : Type 0} (items : List T) → cut (range_with_len 0 (length items + 1)) items ≡ map (λ item. item ∷ []) items
cut_singles items =
    let starts = range_with_len 0 (length items + 1) in
    let count = length-range_with_len 0 (length items + 1) in
    let size = length-cut starts items in
    ext_get_or [] (cut starts items) (map (λ item. item ∷ []) items) (omega (arith, size, count, length-map items (λ item. item ∷ [])))
    (λ at within.
    let first = get_or-range_with_len 0 (length items + 1) at 0 (omega arith) ∙ zero-add at in
    let second = get_or-range_with_len 0 (length items + 1) (at + 1) 0 (omega arith) ∙ zero-add (at + 1) in
    get_or-cut starts items at (omega arith) ∙ ap₂ (slice_range items) first second ∙ single_part items at (omega arith))

pub counts_up_is : (xs : List ℕ) → ((k : ℕ) → k < length xs → get_or xs k 0 ≡ k) → xs ≡ range_with_len 0 (length xs)
counts_up_is xs same =
    ext_get_or 0 xs (range_with_len 0 (length xs)) (sym (length-range_with_len 0 (length xs)))
    (λ k within. same k within ∙ sym (get_or-range_with_len 0 (length xs) k 0 within ∙ omega arith))

pub starts_counted : (starts : List ℕ) (size : ℕ) → AreStarts starts size → starts ≡ range_with_len 0 (length starts) → starts ≡ range_with_len 0 (size + 1)
starts_counted starts size are up =
    let last = ap (λ l. get_or l (length starts - 1) 0) up ∙ get_or-range_with_len 0 (length starts) (length starts - 1) 0 (omega (arith, are.some)) in
    let long : length starts ≡ size + 1 = omega (arith, last, are.last, are.some) in
    up ∙ ap (range_with_len 0) long

pub within_size : (starts : List ℕ) (size k : ℕ) → AreStarts starts size → k < length starts → get_or starts k 0 ≤ size
within_size starts size k are within =
    let below = are.rising k (length starts - 1) 0 (omega arith) (omega arith) in
    omega (arith, below, are.last)
