-- Dates between two ends, some of which are held.
use Rattle.std.proofs.Common.{◌≡◌, Bool, true, false, not, ◌&&◌, ◌||◌, refl, sym, ap, ◌∙◌}
use Rattle.std.proofs.lemmas.Bool.{false≢true, or_left}
use Rattle.std.proofs.lemmas.Cmp.{nat_list_cmp_total}
use Rattle.std.proofs.lemmas.Map.Lookups.{exact_bytes}
use Rattle.std.specs.Ordering.{is_eq, is_le, is_lt, ordering_reverse}
use Rattle.std.specs.declared.cmp.Ordering.{Ordering}
use Rattle.std.specs.declared.cmp.Ordering.TheVariants.{Less, Equal, Greater}
use Rattle.std.proofs.Math.Bool.{and-false, and-true, beq, or-false}
use Rattle.fc_spec.specs.documents.Val.{Text, same_text, text_cmp}
use Rattle.fc_spec.specs.requests.DateGaps.{date_lies_in, is_before}
use Rattle.fc_domain.proofs.TextOrder.{le-not_lt, le_lt, lt-not_le, lt_le}
use Rattle.fc_date_range.specs.HeldDates.{is_from, is_to}

-- ---- at an end that is held, and at one that is not
le_parts : (o : Ordering) → (is_lt o || is_eq o) ≡ is_le o
le_parts Less = refl
le_parts Equal = refl
le_parts Greater = refl

eq_reverse : (o : Ordering) → is_eq (ordering_reverse o) ≡ is_eq o
eq_reverse Less = refl
eq_reverse Equal = refl
eq_reverse Greater = refl

pub same_turned : (t u : Text) → same_text t u ≡ same_text u t
same_turned t u = ap is_eq (nat_list_cmp_total.antisymm t u) ∙ eq_reverse (text_cmp u t)

pub from_held : (low t : Text) → is_from low true t ≡ is_le (text_cmp low t)
from_held low t = ap (λ b. is_before low t || b) (same_turned t low) ∙ le_parts (text_cmp low t)

pub from_left : (low t : Text) → is_from low false t ≡ is_lt (text_cmp low t)
from_left low t = or-false (is_before low t)

pub not_to_held : (high t : Text) → not (is_to high true t) ≡ is_lt (text_cmp high t)
not_to_held high t = ap not (le_parts (text_cmp t high)) ∙ sym (lt-not_le high t)

pub not_to_left : (high t : Text) → not (is_to high false t) ≡ is_le (text_cmp high t)
not_to_left high t = ap not (or-false (is_before t high)) ∙ sym (le-not_lt high t)

-- ---- an edge that two spans share: behind what it ends begins what holds it, where the one holds it and the other does not
pub turned_at : (date : Text) (with_high : Bool) (t : Text) → not (is_to date with_high t) ≡ is_from date (not with_high) t
turned_at date true t = not_to_held date t ∙ sym (from_left date t)
turned_at date false t = not_to_left date t ∙ sym (from_held date t)

pub other_truth : (a b : Bool) → beq a b ≡ false → a ≡ not b
other_truth true true e = absurd (false≢true (sym e))
other_truth true false e = refl
other_truth false true e = refl
other_truth false false e = absurd (false≢true (sym e))

-- ---- an end that is further on
le_if_from : (low : Text) (with_low : Bool) (t : Text) → is_from low with_low t ≡ true → is_le (text_cmp low t) ≡ true
le_if_from low true t e = sym (from_held low t) ∙ e
le_if_from low false t e = sym (le_parts (text_cmp low t)) ∙ or_left (is_lt (text_cmp low t)) (is_eq (text_cmp low t)) (sym (from_left low t) ∙ e)

le_if_to : (high : Text) (with_high : Bool) (t : Text) → is_to high with_high t ≡ true → is_le (text_cmp t high) ≡ true
le_if_to high true t e = sym (le_parts (text_cmp t high)) ∙ e
le_if_to high false t e = sym (le_parts (text_cmp t high)) ∙ or_left (is_lt (text_cmp t high)) (is_eq (text_cmp t high)) (sym (or-false (is_before t high)) ∙ e)

pub from_earlier : (a b : Text) (with_a with_b : Bool) (t : Text) → is_before a b ≡ true → is_from b with_b t ≡ true → is_from a with_a t ≡ true
from_earlier a b with_a with_b t order e = or_left (is_before a t) (with_a && same_text t a) (lt_le a b t order (le_if_from b with_b t e))

pub to_later : (a b : Text) (with_a with_b : Bool) (t : Text) → is_before a b ≡ true → is_to a with_a t ≡ true → is_to b with_b t ≡ true
to_later a b with_a with_b t order e = or_left (is_before t b) (with_b && same_text t b) (le_lt t a b (le_if_to a with_a t e) order)

pub not_to_earlier : (a b : Text) (with_a with_b : Bool) (t : Text) → is_before a b ≡ true → not (is_to b with_b t) ≡ true → not (is_to a with_a t) ≡ true
not_to_earlier a b with_a with_b t order e = go (is_to a with_a t) refl
  where
    go : (held : Bool) → is_to a with_a t ≡ held → not (is_to a with_a t) ≡ true
    go true h = absurd (false≢true (ap not (sym (to_later a b with_a with_b t order h)) ∙ e))
    go false h = ap not h

-- ---- between two ends of which one is before the other
module _ (low high t : Text) (order : is_before low high ≡ true) (with_low with_high : Bool) where
  abbrev both : Ordering → Ordering → Type 0
  both o p = (((is_lt o && is_lt p) || (with_low && is_eq o)) || (with_high && is_eq p)) ≡ ((is_lt o || (with_low && is_eq o)) && (is_lt p || (with_high && is_eq p)))

  by_order : (o p : Ordering) → text_cmp low t ≡ o → text_cmp t high ≡ p → both o p
  by_order Less Less e f = refl
  by_order Less Equal e f = λ i. and-false with_low i || (with_high && true)
  by_order Less Greater e f = λ i. and-false with_low i || (with_high && false)
  by_order Equal Less e f = ap (λ b. (with_low && true) || b) (and-false with_high) ∙ or-false (with_low && true) ∙ sym (and-true (with_low && true))
  by_order Equal Equal e f = absurd (false≢true (sym (ap is_lt f) ∙ ap (λ u. is_before u high) (sym (exact_bytes low t e)) ∙ order))
  by_order Equal Greater e f = absurd (false≢true (sym (ap is_lt f) ∙ ap (λ u. is_before u high) (sym (exact_bytes low t e)) ∙ order))
  by_order Greater Less e f = (λ i. and-false with_low i || and-false with_high i) ∙ sym (λ i. and-false with_low i && true)
  by_order Greater Equal e f = absurd (false≢true (sym (ap is_lt e) ∙ ap (λ u. is_before low u) (exact_bytes t high f) ∙ order))
  by_order Greater Greater e f = (λ i. and-false with_low i || and-false with_high i) ∙ sym (λ i. and-false with_low i && (with_high && false))

  pub lies_both : date_lies_in low with_low high with_high t ≡ (is_from low with_low t && is_to high with_high t)
  lies_both =
      let o = text_cmp low t in
      let p = text_cmp t high in
      (λ i. ((is_lt o && is_lt p) || (with_low && same_turned t low i)) || (with_high && is_eq p)) ∙ by_order o p refl refl
      ∙ (λ i. (is_lt o || (with_low && sym (same_turned t low) i)) && (is_lt p || (with_high && is_eq p)))

-- ---- between a date and itself
pub lies_at : (date t : Text) (with_low with_high : Bool) → date_lies_in date with_low date with_high t ≡ ((with_low || with_high) && same_text t date)
lies_at date t with_low with_high = ap (λ b. (b || (with_low && same_text t date)) || (with_high && same_text t date)) (apart (text_cmp date t) refl) ∙ either with_low (same_text t date)
  where
    apart : (o : Ordering) → text_cmp date t ≡ o → (is_before date t && is_before t date) ≡ false
    apart Less e = ap (λ b. is_before date t && b) (ap is_lt (nat_list_cmp_total.antisymm t date ∙ ap ordering_reverse e)) ∙ and-false (is_before date t)
    apart Equal e = ap (λ o. is_lt o && is_before t date) e
    apart Greater e = ap (λ o. is_lt o && is_before t date) e

    either : (a s : Bool) → ((a && s) || (with_high && s)) ≡ ((a || with_high) && s)
    either true true = refl
    either true false = and-false with_high
    either false s = refl
