-- Integers that lie strictly inside of one gap.
use Rattle.std.proofs.Common.{◌≡◌, ℕ, ◌+◌, ◌*◌, ◌/◌, ◌%◌, ◌<◌, ◌≤◌, ℤ, pos, ◌+ℤ◌, ◌<ℤ◌, inl, inr, Bool, true, false, ◌&&◌, ◌||◌, ◌==◌, sym, ap, subst, ◌∙◌, arith, eq-eqb, ne_eqb}
use Rattle.std.specs.Prelude.{unsigned_abs, int_lt, nat_lt, if◌then◌else◌}
use Rattle.std.specs.Ordering.{int_eq}
use Rattle.std.proofs.lemmas.Bool.{cases_eq, false_from_ne_true, false≢true}
use Rattle.std.proofs.lemmas.Int.{ints}
use Rattle.std.proofs.lemmas.Nat.{div-add-mod'}
use Rattle.std.proofs.Math.Nat.{mod-lt}
use Rattle.std.proofs.Math.Bool.{and-false}
use Rattle.fc_spec.specs.requests.Gaps.{gap_count, high_end, in_gap, is_last_gap, lies_in, low_end}
use Rattle.fc_spec.specs.requests.Request.{Range}
use Rattle.fc_facet.specs.RangeGaps.{HasFewGaps}
use Rattle.fc_facet.proofs.RangeGaps.{product_is, some_step}
use Rattle.fc_range.proofs.NearGaps.{near_gaps}
use Rattle.fc_range.specs.Reached.{is_held}
use Rattle.fc_range.proofs.Tests.{below_is}

below : (a b : ℤ) → a <ℤ b → int_lt a b ≡ true
below a b h = grind (arith, ints)

not_below : (a b : ℤ) → b <ℤ a → int_lt a b ≡ false
not_below a b h = grind (arith, ints)

not_same : (a b : ℤ) → a <ℤ b → int_eq b a ≡ false
not_same a b h = grind (arith, ints)

-- strictly between the ends, and above both
inside_is : (low high x : ℤ) (with_low with_high : Bool) → low <ℤ x → x <ℤ high → lies_in low with_low high with_high x ≡ true
inside_is low high x with_low with_high h k =
    λ j. ((below low x h j && below x high k j) || (with_low && int_eq x low)) || (with_high && int_eq x high)

above_is : (low high x : ℤ) (with_low with_high : Bool) → low <ℤ x → high <ℤ x → lies_in low with_low high with_high x ≡ false
above_is low high x with_low with_high h k =
    (λ j. ((int_lt low x && not_below x high k j) || (with_low && not_same low x h j)) || (with_high && not_same high x k j))
    ∙ (λ j. (and-false (int_lt low x) j || and-false with_low j) || and-false with_high j)

further : (a x : ℤ) (n m : ℕ) → x ≡ a +ℤ pos n → m < n → (a +ℤ pos m) <ℤ x
further a x n m is h = omega (arith, ints)

nearer : (a x : ℤ) (n m : ℕ) → x ≡ a +ℤ pos n → n < m → x <ℤ (a +ℤ pos m)
nearer a x n m is h = omega (arith, ints)

module _ (g : Range) (few : HasFewGaps g) where
  abbrev step : ℕ
  step = unsigned_abs g.gap

  low_is : (i : ℕ) → low_end g i ≡ g.start +ℤ pos (i * step)
  low_is i = ap (λ z. g.start +ℤ z) (sym (product_is i g.gap few.forward))

  -- the end of a gap that is not cut off
  whole_high : (i : ℕ) → (g.hardend && is_last_gap g i) ≡ false → high_end g i ≡ low_end g (i + 1)
  whole_high i whole = ap (λ b. if b then g.end else low_end g (i + 1)) whole

  -- no other gap holds an integer that lies strictly inside of one that is not cut off
  module _ (x : ℤ) (n : ℕ) (away : x ≡ g.start +ℤ pos n) (apart : n % step ≡ 0 → ⊥) (there : n / step < gap_count g) (whole : (g.hardend && is_last_gap g (n / step)) ≡ false) where
    over : n / step * step < n
    over = let parts = div-add-mod' n step in omega (arith, parts, apart)

    under : n < (n / step + 1) * step
    under = let parts = div-add-mod' n step in let some = some_step g.gap few.forward in let less = mod-lt n some in grind arith

    above_low : (i : ℕ) → i * step ≤ n / step * step → low_end g i <ℤ x
    above_low i least = rw (low_is i) (further g.start x n (i * step) away (let o = over in omega arith))

    held : in_gap g (n / step) x ≡ true
    held = inside_is (low_end g (n / step)) (high_end g (n / step)) x _ _ (above_low (n / step) (omega arith))
        (rw (whole_high (n / step) whole, low_is (n / step + 1)) (nearer g.start x n ((n / step + 1) * step) away under))

    other : (i : ℕ) → i + 1 ≡ n / step → in_gap g i x ≡ false
    other i e =
        let early : is_last_gap g i ≡ false = ne_eqb (gap_count g) (i + 1) (λ same. omega (arith, same, e, there)) in
        let high = whole_high i (ap (λ b. g.hardend && b) early ∙ and-false g.hardend) in
        let one : (i + 1) * step ≡ n / step * step = ap (λ k. k * step) e in
        above_is (low_end g i) (high_end g i) x _ _ (above_low i (grind arith))
        (subst (λ z. z <ℤ x) (sym high) (above_low (i + 1) (omega (arith, one))))

    pub gap_alone : (i : ℕ) → in_gap g i x ≡ (i == n / step)
    gap_alone i = elim (cases_eq i (n / step)) [
      | inl e ↦ ap (λ k. in_gap g k x) e ∙ held ∙ sym (eq-eqb i (n / step) e)
      | inr far ↦ false_from_ne_true (in_gap g i x) (λ h. elim (near_gaps g few i x n away h) [
        | inl e ↦ far e
        | inr e ↦ absurd (false≢true (sym (other i e) ∙ h))
      ]) ∙ sym (ne_eqb i (n / step) far)
    ]

-- where one gap alone holds an integer, it is the one that counts
pub held_alone : (g : Range) (x : ℤ) (n : ℕ) → n < gap_count g → ((i : ℕ) → in_gap g i x ≡ (i == n)) → (i : ℕ) → is_held g x i ≡ (i == n)
held_alone g x n there alone i = elim (cases_eq i n) [
  | inl e ↦ ap (λ b. b && in_gap g i x) (below_is i (gap_count g) (omega (arith, e, there))) ∙ alone i
  | inr other ↦
      let not = ne_eqb i n other in
      ap (λ b. nat_lt i (gap_count g) && b) (alone i ∙ not) ∙ and-false (nat_lt i (gap_count g)) ∙ sym not
]
