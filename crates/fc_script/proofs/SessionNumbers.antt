-- A session that is among those of a script has a number.
use Rattle.std.proofs.Common.{◌≡◌, ℕ, suc, ◌+◌, ◌<◌, ◌≤◌, List, [], ◌∷◌, length, get_or, Bool, true, false, cond, nat_lt, Some, None, refl, sym, subst, arith}
use Rattle.std.specs.List.{list_any, position, position_or_len}
use Rattle.std.proofs.lemmas.Bool.{ltb-true, ltb-false}
use Rattle.fc_spec.specs.documents.Val.{Text, same_text}
use Rattle.fc_spec.proofs.words.Texts.{equal}

module _ (p : Text → Bool) (d : Text) where
  passes_cons : (x : Text) (xs : List Text) (test : Bool) → p x ≡ test → (position_or_len p xs < length xs → p (get_or xs (position_or_len p xs) d) ≡ true)
      → position_or_len p (x ∷ xs) < length (x ∷ xs) → p (get_or (x ∷ xs) (position_or_len p (x ∷ xs)) d) ≡ true
  passes_cons x xs true is later found = rw is is
  passes_cons x xs false is later found =
      let one : 1 + position_or_len p xs ≡ suc (position_or_len p xs) = omega arith in
      let inside : position_or_len p (x ∷ xs) < suc (length xs) = found in
      rw (is, one) (later (omega (arith, rw (is, one) at inside)))

  -- the first place that passes
  passes : (xs : List Text) → position_or_len p xs < length xs → p (get_or xs (position_or_len p xs) d) ≡ true
  passes [] found = absurd (omega arith)
  passes (x ∷ xs) found = passes_cons x xs (p x) refl (passes xs) found

  none_cons : (x : Text) (xs : List Text) (test : Bool) → p x ≡ test → (length xs ≤ position_or_len p xs → list_any p xs ≡ false) → length (x ∷ xs) ≤ position_or_len p (x ∷ xs) → list_any p (x ∷ xs) ≡ false
  none_cons x xs true is later none =
      let outside : suc (length xs) ≤ position_or_len p (x ∷ xs) = none in
      absurd (omega (arith, rw is at outside))
  none_cons x xs false is later none =
      let outside : suc (length xs) ≤ position_or_len p (x ∷ xs) = none in
      let one : 1 + position_or_len p xs ≡ suc (position_or_len p xs) = omega arith in
      rw is (later (omega (arith, rw (is, one) at outside)))

  none_passes : (xs : List Text) → length xs ≤ position_or_len p xs → list_any p xs ≡ false
  none_passes [] none = refl
  none_passes (x ∷ xs) none = none_cons x xs (p x) refl (none_passes xs) none

  at_number : (xs : List Text) (i : ℕ) (test : Bool) → nat_lt (position_or_len p xs) (length xs) ≡ test → cond test (Some (position_or_len p xs)) None ≡ Some i → p (get_or xs i d) ≡ true
  at_number xs i true is found =
      let same : position_or_len p xs ≡ i = cc in
      subst (λ k. p (get_or xs k d) ≡ true) same (passes xs (ltb-true (position_or_len p xs) (length xs) is))
  at_number xs i false is found = cc

  at_none : (xs : List Text) (test : Bool) → nat_lt (position_or_len p xs) (length xs) ≡ test → cond test (Some (position_or_len p xs)) None ≡ None → list_any p xs ≡ false
  at_none xs true is none = cc
  at_none xs false is none = none_passes xs (ltb-false (position_or_len p xs) (length xs) is)

  found_cons : (x : Text) (xs : List Text) (test : Bool) → p x ≡ test → (position_or_len p xs < length xs → list_any p xs ≡ true) → position_or_len p (x ∷ xs) < length (x ∷ xs) → list_any p (x ∷ xs) ≡ true
  found_cons x xs true is later found = rw is refl
  found_cons x xs false is later found =
      let one : 1 + position_or_len p xs ≡ suc (position_or_len p xs) = omega arith in
      let inside : position_or_len p (x ∷ xs) < suc (length xs) = found in
      rw is (later (omega (arith, rw (is, one) at inside)))

  found_among : (xs : List Text) → position_or_len p xs < length xs → list_any p xs ≡ true
  found_among [] found = absurd (omega arith)
  found_among (x ∷ xs) found = found_cons x xs (p x) refl (found_among xs) found

  at_some : (xs : List Text) (i : ℕ) (test : Bool) → nat_lt (position_or_len p xs) (length xs) ≡ test → cond test (Some (position_or_len p xs)) None ≡ Some i → list_any p xs ≡ true
  at_some xs i true is found = found_among xs (ltb-true (position_or_len p xs) (length xs) is)
  at_some xs i false is found = cc

-- the session of its number
pub number_of : (t : Text) (ts : List Text) (i : ℕ) → position (same_text t) ts ≡ Some i → get_or ts i [] ≡ t
number_of t ts i found = sym (equal t (get_or ts i []) (at_number (same_text t) [] ts i _ refl found))

-- it is there, or not
pub among : (t : Text) (ts : List Text) (i : ℕ) → position (same_text t) ts ≡ Some i → list_any (same_text t) ts ≡ true
among t ts i found = at_some (same_text t) [] ts i _ refl found

pub not_among : (t : Text) (ts : List Text) → position (same_text t) ts ≡ None → list_any (same_text t) ts ≡ false
not_among t ts none = at_none (same_text t) [] ts _ refl none
