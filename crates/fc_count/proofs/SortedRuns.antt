-- What a sort by numbers gives.
use Rattle.std.proofs.Common.{◌≡◌, ℕ, ℤ, ◌<◌, ◌≤◌, ◌+◌, Bool, false, ◌&&◌, not, List, ◌∷◌, length, get_or, take, drop, suc, All, sym, ap, ap₂, subst, ◌∙◌, arith}
use Rattle.std.specs.List.{AllWithin}
use Rattle.std.specs.List.Sorted.{IsSortedByKey, IsStableByKey}
use Rattle.std.specs.Ordering.{int_cmp, int_eq, is_lt}
use Rattle.std.proofs.lemmas.Cmp.{int_cmp_total}
use Rattle.std.proofs.lemmas.Int.{ints}
use Rattle.std.proofs.lemmas.List.{get_or-drop, get_or-take, get_or_default, length-drop, length-take}
use Rattle.std.proofs.lemmas.List.Elements.{filter_agree}
use Rattle.std.proofs.lemmas.List.Sorted.{sorted_far, ranks_by}
use Rattle.fc_count.specs.declared.countings.Entry.{Entry}
use Rattle.fc_count.specs.Rows.{Rise, entries_of}

pub rise_of_sorted : (cs : List Entry) → IsSortedByKey (λ c. c.number) int_cmp cs → Rise cs
rise_of_sorted cs sorted = λ i j d order within.
    sorted_far (λ (x y : Entry). is_lt (int_cmp x.number y.number)) (ranks_by int_cmp_total (λ (c : Entry). c.number)) cs sorted i j d order within

tied : (a b : ℤ) → (not (is_lt (int_cmp a b)) && not (is_lt (int_cmp b a))) ≡ int_eq b a
tied a b = grind (arith, ints)

-- those of one number keep their order
pub same_of_stable : (cs sorted : List Entry) → IsStableByKey (λ c. c.number) int_cmp cs sorted → (n : ℤ) → entries_of n sorted ≡ entries_of n cs
same_of_stable cs sorted stable n =
    let one : Entry = record { number = n; row = 0 } in
    let t : Entry → Bool = λ c. not (is_lt (int_cmp n c.number)) && not (is_lt (int_cmp c.number n)) in
    let e : (c : Entry) → int_eq c.number n ≡ t c = λ c. sym (tied n c.number) in
    filter_agree (λ c. int_eq c.number n) t e sorted ∙ stable one ∙ sym (filter_agree (λ c. int_eq c.number n) t e cs)

-- ---- the end of a run
past_other : (a b c : ℤ) → is_lt (int_cmp b a) ≡ false → int_eq b a ≡ false → is_lt (int_cmp c b) ≡ false → int_eq c a ≡ false
past_other a b c first other order = grind (arith, ints)

-- those behind one that is no longer of the first one's number
pub other_behind : (first : Entry) (cs : List Entry) (end : ℕ) (none : Entry) → Rise (first ∷ cs) → end < length cs → int_eq (get_or cs end none).number first.number ≡ false
    → AllWithin (λ c. int_eq c.number first.number ≡ false) cs end (length cs)
other_behind first cs end none rise within other = λ k d from inside.
    let other_at = ap (λ (x : Entry). int_eq x.number first.number) (get_or_default cs end d none within) ∙ other in
    past_other first.number (get_or cs end d).number (get_or cs k d).number (rise 0 (suc end) d (omega arith) (omega arith)) other_at (rise (suc end) (suc k) d (omega arith) (omega arith))

pub rise_behind : (n : ℕ) (first : Entry) (cs : List Entry) → Rise (first ∷ cs) → Rise (drop n cs)
rise_behind n first cs rise = λ i j d order within.
    let size = length-drop n cs in
    ap₂ (λ (x y : Entry). is_lt (int_cmp x.number y.number)) (get_or-drop n cs j d) (get_or-drop n cs i d) ∙ rise (suc (n + i)) (suc (n + j)) d (omega arith) (omega (arith, size))

-- ---- the parts of a list
pub all_in_front : {X : Type 0} (P : X → Type 0) (n : ℕ) (xs : List X) → n ≤ length xs → AllWithin P xs 0 n → All P (take n xs)
all_in_front P n xs within h = λ k d inside.
    let size = length-take n xs in
    subst P (sym (get_or-take n xs k d (omega (arith, size)))) (h k d (omega arith) (omega (arith, size)))

pub all_behind : {X : Type 0} (P : X → Type 0) (n : ℕ) (xs : List X) → AllWithin P xs n (length xs) → All P (drop n xs)
all_behind P n xs h = λ k d inside.
    let size = length-drop n xs in
    subst P (sym (get_or-drop n xs k d)) (h (n + k) d (omega arith) (omega (arith, size)))
