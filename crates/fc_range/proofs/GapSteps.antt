-- Gaps that are gone through by their numbers.
use Rattle.std.proofs.Common.{◌≡◌, ℕ, ◌+◌, ◌<◌, ◌≤◌, ◌==◌, Bool, true, false, ◌&&◌, ◌||◌, ◌⊎◌, inl, inr, refl, sym, ap, ◌∙◌, arith}
use Rattle.std.specs.Prelude.{nat_le, nat_lt}
use Rattle.std.proofs.lemmas.Bool.{and_parts, cases_eq, cases_lt, eq-eqb, ne_eqb}
use Rattle.std.proofs.Math.Bool.{and-false, or-false, or-true}
use Rattle.fc_range.proofs.Tests.{before_is, below_is, below_more, from_is, is_below, past_is}
use Rattle.fc_range.specs.Reached.{IsReached}
use Rattle.fc_range.proofs.Reached.{alike_reached}

module _ (t : ℕ → Bool) (from : ℕ) where
  -- those from one number up to another that pass
  abbrev pub passed : ℕ → ℕ → Bool
  passed n i = nat_le from i && (nat_lt i n && t i)

  pub none_passed : (n i : ℕ) → n ≤ from → passed n i ≡ false
  none_passed n i h = elim (cases_lt i from) [
    | inl before ↦ ap (λ b. b && (nat_lt i n && t i)) (before_is from i before)
    | inr behind ↦ ap (λ b. nat_le from i && (b && t i)) (past_is i n (omega arith)) ∙ and-false (nat_le from i)
  ]

  pub not_passed : (n i : ℕ) → n ≤ i → passed n i ≡ false
  not_passed n i h = ap (λ b. nat_le from i && (b && t i)) (past_is i n h) ∙ and-false (nat_le from i)

  is_passed : (n : ℕ) → from ≤ n → t n ≡ true → passed (n + 1) n ≡ true
  is_passed n h passes = (λ i. from_is from n h i && (below_is n (n + 1) (omega arith) i && passes i))

  other_passed : (n i : ℕ) → (i ≡ n → ⊥) → passed (n + 1) i ≡ passed n i
  other_passed n i other = ap (λ b. nat_le from i && (b && t i)) (below_more i n other)

  -- one that passes, and one that does not
  pub one_passed : (n : ℕ) → from ≤ n → t n ≡ true → (i : ℕ) → passed (n + 1) i ≡ (passed n i || i == n)
  one_passed n h passes i = elim (cases_eq i n) [
    | inl e ↦ ap (passed (n + 1)) e ∙ is_passed n h passes ∙ sym (ap (λ b. passed n i || b) (eq-eqb i n e) ∙ or-true (passed n i))
    | inr other ↦ other_passed n i other ∙ sym (ap (λ b. passed n i || b) (ne_eqb i n other) ∙ or-false (passed n i))
  ]

  pub same_passed : (n : ℕ) → t n ≡ false → (i : ℕ) → passed (n + 1) i ≡ passed n i
  same_passed n fails i = elim (cases_eq i n) [
    | inl e ↦
        let not : t i ≡ false = ap t e ∙ fails in
        ap (λ b. nat_le from i && (nat_lt i (n + 1) && b)) not ∙ ap (λ b. nat_le from i && b) (and-false (nat_lt i (n + 1)))
        ∙ sym (ap (λ b. nat_le from i && (nat_lt i n && b)) not ∙ ap (λ b. nat_le from i && b) (and-false (nat_lt i n)))
    | inr other ↦ other_passed n i other
  ]

  -- behind the last one nothing changes
  pub all_passed : (n to : ℕ) → to ≤ n → (from ≤ to → n ≤ to) → (to < from → n ≡ from) → (i : ℕ) → passed n i ≡ passed to i
  all_passed n to most least empty i = elim (cases_lt i from) [
    | inl before ↦ ap (λ b. b && (nat_lt i n && t i)) (before_is from i before) ∙ sym (ap (λ b. b && (nat_lt i to && t i)) (before_is from i before))
    | inr behind ↦ elim (cases_lt i to) [
      | inl inside ↦ ap (λ b. nat_le from i && (b && t i)) (below_is i n (omega arith) ∙ sym (below_is i to inside))
      | inr past ↦ elim (cases_lt i n) [
        | inl within ↦ absurd (all_apart within behind past)
        | inr out ↦ not_passed n i out ∙ sym (not_passed to i past)
      ]
    ]
  ]
    where
      all_apart : i < n → from ≤ i → to ≤ i → ⊥
      all_apart within behind past = elim (cases_lt to from) [
        | inl less ↦ let e = empty less in absurd (omega arith)
        | inr more ↦ let e = least more in absurd (omega arith)
      ]

  -- the last one that passes is where they are reached then
  pub reached_one : (old last n : ℕ) → old ≤ from → from ≤ n → t n ≡ true → IsReached (passed n) old last → IsReached (passed (n + 1)) old (n + 1)
  reached_one old last n first here passes r = record {
    rises = omega arith;
    behind = λ i h. not_passed (n + 1) i h;
    last = inr (λ i e. let same : n ≡ i = omega (arith, e) in ap (passed (n + 1)) (sym same) ∙ is_passed n here passes);
  }

  pub reached_same : (old last n : ℕ) → t n ≡ false → IsReached (passed n) old last → IsReached (passed (n + 1)) old last
  reached_same old last n fails r = alike_reached (passed n) (passed (n + 1)) old last (λ i. sym (same_passed n fails i)) r

-- of so many gaps those that hold something
module _ (count : ℕ) (holds : ℕ → Bool) where
  abbrev pub is_there : ℕ → Bool
  is_there i = nat_lt i count && holds i

  pub there_if : (i : ℕ) → i < count → holds i ≡ true → is_there i ≡ true
  there_if i below held = λ j. below_is i count below j && held j

  pub there_parts : (i : ℕ) → is_there i ≡ true → (i < count) × (holds i ≡ true)
  there_parts i e = let parts = and_parts (nat_lt i count) (holds i) e in (is_below i count parts.0, parts.1)

  pub not_there : (reached i : ℕ) → holds i ≡ false → (nat_le reached i && is_there i) ≡ false
  not_there reached i fails = ap (λ b. nat_le reached i && (nat_lt i count && b)) fails ∙ ap (λ b. nat_le reached i && b) (and-false (nat_lt i count)) ∙ and-false (nat_le reached i)

  nearby : (n i : ℕ) → (i ≡ n) ⊎ (i + 1 ≡ n) → (n ≤ i + 1) × (i ≤ n)
  nearby n i (inl e) = (omega (arith, e), omega (arith, e))
  nearby n i (inr e) = (omega (arith, e), omega (arith, e))

  -- where only those of a number and of the one before it may hold it, no others need to be gone through
  pub near_passed : (n reached from to : ℕ) → ((i : ℕ) → i < count → holds i ≡ true → (i ≡ n) ⊎ (i + 1 ≡ n)) → reached ≤ from → ((i : ℕ) → reached ≤ i → n ≤ i + 1 → from ≤ i)
      → to ≤ count → ((i : ℕ) → i < count → i ≤ n → i < to) → (i : ℕ) → passed holds from to i ≡ (nat_le reached i && is_there i)
  near_passed n reached from to near first least last most i = go (holds i) refl
    where
      go : (b : Bool) → holds i ≡ b → passed holds from to i ≡ (nat_le reached i && is_there i)
      go false fails = ap (λ b. nat_le from i && (nat_lt i to && b)) fails ∙ ap (λ b. nat_le from i && b) (and-false (nat_lt i to)) ∙ and-false (nat_le from i) ∙ sym (not_there reached i fails)
      go true held = elim (cases_lt i reached) [
        | inl before ↦ ap (λ b. b && (nat_lt i to && holds i)) (before_is from i (omega arith)) ∙ sym (ap (λ b. b && is_there i) (before_is reached i before))
        | inr behind ↦ elim (cases_lt i count) [
          | inl there ↦
              let ends = nearby n i (near i there held) in
              let low = from_is from i (least i behind ends.0) ∙ sym (from_is reached i behind) in
              let high = below_is i to (most i there ends.1) ∙ sym (below_is i count there) in
              λ j. low j && (high j && holds i)
          | inr past ↦
              ap (λ b. nat_le from i && (b && holds i)) (past_is i to (omega arith)) ∙ and-false (nat_le from i)
              ∙ sym (ap (λ b. nat_le reached i && (b && holds i)) (past_is i count past) ∙ and-false (nat_le reached i))
        ]
      ]
