-- How gaps lie beside each other, and which of them are near an integer.
use Rattle.std.proofs.Common.{◌≡◌, ℕ, ◌+◌, ◌*◌, ◌/◌, ◌<◌, ◌≤◌, ℤ, pos, ◌+ℤ◌, ◌-ℤ◌, ◌<ℤ◌, ◌≤ℤ◌, ◌⊎◌, inl, inr, Bool, true, false, ◌&&◌, ◌||◌, refl, sym, ap, subst, arith}
use Rattle.std.specs.Prelude.{unsigned_abs, int_lt, if◌then◌else◌, ◌==◌}
use Rattle.std.specs.Ordering.{int_eq}
use Rattle.std.proofs.lemmas.Bool.{and_parts, cases_lt, eqb-true, false_from_ne_true}
use Rattle.std.proofs.lemmas.Bool.Decides.{Decides-int_eq}
use Rattle.std.proofs.lemmas.Grind.{div_ceil_times}
use Rattle.std.proofs.lemmas.Int.{ints}
use Rattle.std.proofs.Math.Nat.{mul-le-mul_right}
use Rattle.fc_spec.specs.requests.Gaps.{gap_count, in_gap, is_last_gap, lies_in, low_end}
use Rattle.fc_spec.specs.requests.Request.{Range}
use Rattle.fc_facet.specs.RangeGaps.{HasFewGaps}
use Rattle.fc_facet.proofs.RangeGaps.{below_width, product_is, some_step}

above : (a b : ℤ) → int_lt a b ≡ true → a <ℤ b
above a b h = grind (arith, ints)

pub or_cases : {P : Type 0} (a b : Bool) → (a ≡ true → P) → (b ≡ true → P) → (a || b) ≡ true → P
or_cases true b left right h = left refl
or_cases false b left right h = right h

-- what lies in is between the ends
between_ends : (low high x : ℤ) (with_low with_high : Bool) → low ≤ℤ high → lies_in low with_low high with_high x ≡ true → (low ≤ℤ x) × (x ≤ℤ high)
between_ends low high x with_low with_high up =
    let P : Type 0 = (low ≤ℤ x) × (x ≤ℤ high) in
    let inside = int_lt low x && int_lt x high in
    or_cases {P = P} (inside || (with_low && int_eq x low)) (with_high && int_eq x high)
    (or_cases {P = P} inside (with_low && int_eq x low)
    (λ e.
    let parts = and_parts (int_lt low x) (int_lt x high) e in
    let first = above low x parts.0 in
    let later = above x high parts.1 in
    (omega (arith, ints), omega (arith, ints)))
    (λ e. let same : x ≡ low = (Decides-int_eq x low).0 (and_parts with_low (int_eq x low) e).1 in (omega (arith, ints), omega (arith, ints))))
    (λ e. let same : x ≡ high = (Decides-int_eq x high).0 (and_parts with_high (int_eq x high) e).1 in (omega (arith, ints), omega (arith, ints)))

-- what is from one multiple of a step to the next has one of the two quotients
quotient_near : (i n step : ℕ) → 0 < step → i * step ≤ n → n ≤ (i + 1) * step → (i ≡ n / step) ⊎ (i + 1 ≡ n / step)
quotient_near i n step some least most =
    let q = n / step in
    elim (cases_lt i q) [
      | inl h ↦ elim (cases_lt (i + 1) q) [
        | inl k ↦ let far = mul-le-mul_right {m = i + 2} {n = q} step (omega arith) in absurd (grind arith)
        | inr k ↦ inr (omega arith)
      ]
      | inr h ↦ elim (cases_lt q i) [
        | inl k ↦ let far = mul-le-mul_right {m = q + 1} {n = i} step (omega arith) in absurd (grind arith)
        | inr k ↦ inl (omega arith)
      ]
    ]

-- how far the greater is from the lesser
pub distance : (a b : ℤ) → a ≤ℤ b → b ≡ a +ℤ pos (unsigned_abs (b -ℤ a))
distance a b h = omega (arith, ints)

ints_chained : (a b c : ℤ) → a ≤ℤ b → b ≤ℤ c → a ≤ℤ c
ints_chained a b c h k = omega (arith, ints)

further : (a : ℤ) (m n : ℕ) → m ≤ n → (a +ℤ pos m) ≤ℤ (a +ℤ pos n)
further a m n h = omega (arith, ints)

apart : (a x : ℤ) (n m : ℕ) → x ≡ a +ℤ pos n → (a +ℤ pos m) ≤ℤ x → m ≤ n
apart a x n m is h = omega (arith, ints)

together : (a x : ℤ) (n m : ℕ) → x ≡ a +ℤ pos n → x ≤ℤ (a +ℤ pos m) → n ≤ m
together a x n m is h = omega (arith, ints)

outside : (a x : ℤ) (m : ℕ) → x <ℤ a → (a +ℤ pos m) ≤ℤ x → ⊥
outside a x m h k = absurd (omega (arith, ints))

module _ (g : Range) (few : HasFewGaps g) where
  abbrev step : ℕ
  step = unsigned_abs g.gap

  -- the low end of a gap is so far from the start
  low_end_is : (i : ℕ) → low_end g i ≡ g.start +ℤ pos (i * step)
  low_end_is i = ap (λ z. g.start +ℤ z) (sym (product_is i g.gap few.forward))

  -- the range's end is no higher than the next low end after the last gap
  end_within : (i : ℕ) → is_last_gap g i ≡ true → ((g.start +ℤ pos (i * step)) ≤ℤ g.end) × (g.end ≤ℤ (g.start +ℤ pos ((i + 1) * step)))
  end_within i last =
      let count : gap_count g ≡ i + 1 = eqb-true (gap_count g) (i + 1) last in
      let width = unsigned_abs (g.end -ℤ g.start) in
      let some = some_step g.gap few.forward in
      let ends = div_ceil_times width step some in
      let least = below_width i step width some (omega (arith, count)) in
      let most : width ≤ (i + 1) * step = rw (← count) ends.0 in
      let far : g.end ≡ g.start +ℤ pos width = distance g.start g.end few.ordered in
      (omega (arith, ints), omega (arith, ints))

  -- what a gap holds is no further than two multiples of the gap from the start
  held_within : (i : ℕ) (x : ℤ) → in_gap g i x ≡ true → ((g.start +ℤ pos (i * step)) ≤ℤ x) × (x ≤ℤ (g.start +ℤ pos ((i + 1) * step)))
  held_within i x h = go (g.hardend && is_last_gap g i) refl h
    where
      low_with : Bool
      low_with = g.lower || (g.edge && (i == 0))

      high_with : Bool
      high_with = g.upper || (g.edge && is_last_gap g i)

      go : (b : Bool) → (g.hardend && is_last_gap g i) ≡ b → lies_in (low_end g i) low_with (if b then g.end else low_end g (i + 1)) high_with x ≡ true
          → ((g.start +ℤ pos (i * step)) ≤ℤ x) × (x ≤ℤ (g.start +ℤ pos ((i + 1) * step)))
      go true last h =
          let low = low_end_is i in
          let within = end_within i (and_parts g.hardend (is_last_gap g i) last).1 in
          let up : low_end g i ≤ℤ g.end = subst (λ z. z ≤ℤ g.end) (sym low) within.0 in
          let ends = between_ends (low_end g i) g.end x low_with high_with up h in
          (subst (λ z. z ≤ℤ x) low ends.0, ints_chained x g.end _ ends.1 within.1)
      go false last h =
          let low = low_end_is i in
          let high = low_end_is (i + 1) in
          let steps = mul-le-mul_right {m = i} {n = i + 1} step (omega arith) in
          let up : low_end g i ≤ℤ low_end g (i + 1) = rw (low, high) (further g.start (i * step) ((i + 1) * step) steps) in
          let ends = between_ends (low_end g i) (low_end g (i + 1)) x low_with high_with up h in
          (subst (λ z. z ≤ℤ x) low ends.0, subst (λ z. x ≤ℤ z) high ends.1)

  -- the gap that holds it begins there or one before
  pub near_gaps : (i : ℕ) (x : ℤ) (n : ℕ) → x ≡ g.start +ℤ pos n → in_gap g i x ≡ true → (i ≡ n / step) ⊎ (i + 1 ≡ n / step)
  near_gaps i x n away h =
      let ends = held_within i x h in
      quotient_near i n step (some_step g.gap few.forward) (apart g.start x n _ away ends.0) (together g.start x n _ away ends.1)

  -- below the start is no gap
  pub none_below : (i : ℕ) (x : ℤ) → x <ℤ g.start → in_gap g i x ≡ false
  none_below i x below = false_from_ne_true (in_gap g i x) (λ h. outside g.start x (i * step) below (held_within i x h).0)

  -- a greater integer lies in no gap before those of a lesser one
  pub gaps_ascend : (i j : ℕ) (x y : ℤ) → in_gap g j y ≡ true → in_gap g i x ≡ true → y <ℤ x → j ≤ i
  gaps_ascend i j x y hy hx below = elim (cases_lt i j) [
    | inl before ↦
        let most = (held_within i x hx).1 in
        let least = (held_within j y hy).0 in
        let steps = mul-le-mul_right {m = i + 1} {n = j} step (omega arith) in
        absurd (omega (arith, ints))
    | inr later ↦ omega arith
  ]
