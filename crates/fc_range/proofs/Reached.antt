-- Gaps that are reached by one value after another, which ascend.
use Rattle.std.proofs.Common.{◌≡◌, ℕ, ◌-◌, ◌<◌, ◌≤◌, Bool, true, false, ◌&&◌, ◌||◌, inl, inr, refl, sym, ap, ◌∙◌, arith}
use Rattle.std.specs.Prelude.{nat_le}
use Rattle.std.proofs.lemmas.Bool.{cases_lt, false≢true}
use Rattle.std.proofs.Math.Bool.{and-false, or-true}
use Rattle.fc_range.proofs.Tests.{before_is, from_is}
use Rattle.fc_range.specs.Reached.{IsReached}

pub alike_reached : (t u : ℕ → Bool) (old new : ℕ) → ((i : ℕ) → t i ≡ u i) → IsReached t old new → IsReached u old new
alike_reached t u old new same r = record {
  rises = r.rises;
  behind = λ i h. sym (same i) ∙ r.behind i h;
  last = elim r.last [ inl e ↦ inl e | inr f ↦ inr (λ i e. sym (same i) ∙ f i e) ];
}

-- where none counts
pub none_reached : (t : ℕ → Bool) (old : ℕ) → ((i : ℕ) → t i ≡ false) → IsReached t old old
none_reached t old none = record { rises = omega arith; behind = λ i h. none i; last = inl refl }

-- gaps that were reached before and those that a value reaches, which are none of the earlier ones
module _ (seen held : ℕ → Bool) (mid new : ℕ) (a : IsReached seen 0 mid) (b : IsReached (λ i. nat_le mid i && held i) mid new) (order : (i j : ℕ) → seen j ≡ true → held i ≡ true → j ≤ i) where
  pub counted_apart : (i : ℕ) → seen i ≡ true → (nat_le mid i && held i) ≡ false
  counted_apart i e = elim (cases_lt i mid) [
    | inl below ↦ ap (λ b. b && held i) (before_is mid i below)
    | inr past ↦ absurd (false≢true (sym (a.behind i past) ∙ e))
  ]

  -- a gap below that holds the value was reached before
  was_seen : (i : ℕ) → i < mid → held i ≡ true → seen i ≡ true
  was_seen i below h = elim a.last [
    | inl e ↦ absurd (omega (arith, e))
    | inr f ↦
        let last = f (mid - 1) (omega arith) in
        let most = order i (mid - 1) last h in
        let same : mid - 1 ≡ i = omega arith in
        sym (ap seen same) ∙ last
  ]

  pub either_counted : (i : ℕ) → (seen i || (nat_le mid i && held i)) ≡ (seen i || held i)
  either_counted i = go (seen i) refl (held i) refl
    where
      go : (s : Bool) → seen i ≡ s → (h : Bool) → held i ≡ h → (seen i || (nat_le mid i && held i)) ≡ (seen i || held i)
      go true s h e = ap (λ b. b || (nat_le mid i && held i)) s ∙ sym (ap (λ b. b || held i) s)
      go false s false e = ap (λ b. seen i || b) (ap (λ b. nat_le mid i && b) e ∙ and-false (nat_le mid i) ∙ sym e)
      go false s true e = elim (cases_lt i mid) [
        | inl below ↦ absurd (false≢true (sym s ∙ was_seen i below e))
        | inr past ↦ ap (λ b. seen i || (b && held i)) (from_is mid i past)
      ]

  pub reached_more : IsReached (λ i. seen i || held i) 0 new
  reached_more = record {
    rises = omega arith;
    behind = λ i h. sym (either_counted i) ∙ ap (λ s. s || (nat_le mid i && held i)) (a.behind i (let up = b.rises in omega arith)) ∙ b.behind i h;
    last = elim b.last [
      | inl e ↦ elim a.last [
        | inl z ↦ inl (e ∙ z)
        | inr f ↦ inr (λ i k. ap (λ s. s || held i) (f i (sym e ∙ k)))
      ]
      | inr f ↦ inr (λ i k. sym (either_counted i) ∙ ap (λ c. seen i || c) (f i k) ∙ or-true (seen i))
    ];
  }
