-- Searching fields that ascend by their names.
use Rattle.std.proofs.Common.{◌≡◌, ℕ, ◌<◌, List, [], ◌∷◌, length, get_or, Bool, true, false, Some, None, Result, Ok, Err, map, position, arith, sym, ◌∙◌, ap, inl, inr, refl, ◌+◌}
use Rattle.std.specs.Ordering.{is_eq, ordering_reverse, is_lt}
use Rattle.std.specs.declared.cmp.Ordering.TheVariants.{Less, Equal, Greater}
use Rattle.std.specs.Cmp.Lexicographic.{nat_list_cmp_total}
use Rattle.std.specs.List.Sorted.{IsStrictlySortedBy, IsSortedBy, IsBinarySearchResult, IsSearchInRange}
use Rattle.std.specs.Result.{result_ok}
use Rattle.std.proofs.lemmas.Bool.{cases_lt}
use Rattle.std.proofs.lemmas.Bool.Decides.{nat_tests}
use Rattle.std.proofs.lemmas.List.{get_or-map, length-map}
use Rattle.std.proofs.lemmas.List.Sorted.{searchable_from_sorted}
use Rattle.std.proofs.lemmas.List.Sums.{position_or_len_is}
use Rattle.std.proofs.lemmas.Map.Keys.{Less-from_sorted}
use Rattle.std.proofs.lemmas.Map.Lookups.{exact_bytes}
use Rattle.fc_spec.specs.documents.Val.{Text, text_cmp, same_text}

-- the first place at which p passes
pub placed : {X : Type 0} (p : X → Bool) (xs : List X) (i : ℕ) (d : X) → i < length xs → p (get_or xs i d) ≡ true → ((k : ℕ) → k < i → p (get_or xs k d) ≡ false) → position p xs ≡ Some i
placed p xs i d below at before = rw (position_or_len_is p xs i d (omega arith) before (λ _. at)) (grind (arith, nat_tests))

-- p passes nowhere
pub absent : {X : Type 0} (p : X → Bool) (xs : List X) (d : X) → ((k : ℕ) → k < length xs → p (get_or xs k d) ≡ false) → position p xs ≡ None
absent p xs d never = rw (position_or_len_is p xs (length xs) d (omega arith) never (λ h. absurd (omega arith))) (grind (arith, nat_tests))

other_below : (a b : Text) → text_cmp a b ≡ Less → same_text b a ≡ false
other_below a b h = ap is_eq (nat_list_cmp_total.antisymm b a ∙ ap ordering_reverse h)

other_above : (a b : Text) → text_cmp a b ≡ Greater → same_text b a ≡ false
other_above a b h = ap is_eq (nat_list_cmp_total.antisymm b a ∙ ap ordering_reverse h)

same_back : (a b : Text) → text_cmp a b ≡ Equal → same_text b a ≡ true
same_back a b h = ap is_eq (nat_list_cmp_total.antisymm b a ∙ ap ordering_reverse h)

-- each name stands below those after it
ascending : {X : Type 0} (name : X → Text) (xs : List X) (i j : ℕ) (d : X) → IsStrictlySortedBy text_cmp (map name xs) → i < j → j < length xs → text_cmp (name (get_or xs i d)) (name (get_or xs j d)) ≡ Less
ascending name xs i j d sorted before below =
    let first = get_or-map name xs i d (name d) (omega arith) in
    let second = get_or-map name xs j d (name d) below in
    rw (← first, ← second) (Less-from_sorted text_cmp (map name xs) i j (name d) sorted before (rw (length-map xs name) below))

found : {X : Type 0} (name : X → Text) (xs : List X) (t : Text) (at : ℕ) (d : X) → IsStrictlySortedBy text_cmp (map name xs) → at < length xs → text_cmp (name (get_or xs at d)) t ≡ Equal → position (λ x. same_text t (name x)) xs ≡ Some at
found name xs t at d sorted below same =
    let is_t = exact_bytes (name (get_or xs at d)) t same in
    placed (λ x. same_text t (name x)) xs at d below (same_back (name (get_or xs at d)) t same)
    (λ k before. other_below (name (get_or xs k d)) t (rw (is_t) at (ascending name xs k at d sorted before below)))

rises : {X : Type 0} (name : X → Text) (xs : List X) → IsStrictlySortedBy text_cmp (map name xs) → IsSortedBy (λ a b. is_lt (text_cmp (name a) (name b))) xs
rises name xs sorted k d low high =
    ap is_lt (nat_list_cmp_total.antisymm (name (get_or xs (k + 1) d)) (name (get_or xs k d)) ∙ ap ordering_reverse (ascending name xs k (k + 1) d sorted (omega arith) high))

-- what a binary search by the names finds is the place of the name
pub search_gives : {X : Type 0} (name : X → Text) (xs : List X) (t : Text) (r : Result ℕ ℕ) → IsStrictlySortedBy text_cmp (map name xs) → IsSearchInRange r (length xs) → IsBinarySearchResult (λ x. text_cmp (name x) t) xs r → result_ok r ≡ position (λ x. same_text t (name x)) xs
search_gives name [] t (Ok at) sorted below same = absurd (omega arith)
search_gives name (x ∷ xs) t (Ok at) sorted below same = sym (found name (x ∷ xs) t at x sorted below (same x))
search_gives name [] t (Err at) sorted below parts = refl
search_gives name (x ∷ xs) t (Err at) sorted below parts =
    let around = parts (searchable_from_sorted nat_list_cmp_total name (x ∷ xs) t (rises name (x ∷ xs) sorted)) in
    sym (absent (λ y. same_text t (name y)) (x ∷ xs) x
    (λ k within. elim (cases_lt k at) [ inl below_at ↦ other_below (name (get_or (x ∷ xs) k x)) t (around.0 k x (omega arith) below_at) | inr past ↦ other_above (name (get_or (x ∷ xs) k x)) t (around.1 k x past within) ]))
