-- Gaps that are reached by one ordinal after another, which ascend.
use Rattle.std.proofs.Common.{◌≡◌, ◌<◌, ◌≤◌, ℕ, List, length, Bool, true, false, ◌&&◌, ◌||◌, refl, sym, ap, ◌∙◌, arith, inl, inr}
use Rattle.std.specs.Prelude.{nat_le, nat_lt}
use Rattle.std.proofs.lemmas.Bool.{and_parts, cases_lt, false≢true, or_left, or_right}
use Rattle.std.proofs.lemmas.List.{get_or_past}
use Rattle.std.proofs.Math.Bool.{and-false}
use Rattle.fc_range.proofs.Tests.{before_is, below_is, from_is, is_below, past_is}
use Rattle.fc_date_range.proofs.Tests.{is_from}
use Rattle.fc_date_range.specs.GapSpans.{is_held, no_span, span_at}
use Rattle.fc_date_range.specs.Reached.{AreReached, Reaches}
use Rattle.fc_date_range.specs.declared.span.Span.{Span}

module _ (spans : List Span) where
  -- one that holds an ordinal begins no later, ends behind it, and is there
  pub held_parts : (ord i : ℕ) → is_held spans ord i ≡ true → ((span_at spans i).from ≤ ord) × (ord < (span_at spans i).past)
  held_parts ord i e =
      let parts = and_parts (nat_le (span_at spans i).from ord) (nat_lt ord (span_at spans i).past) e in
      (is_from (span_at spans i).from ord parts.0, is_below ord (span_at spans i).past parts.1)

  pub held_if : (ord i : ℕ) → (span_at spans i).from ≤ ord → ord < (span_at spans i).past → is_held spans ord i ≡ true
  held_if ord i first behind = λ j. from_is (span_at spans i).from ord first j && below_is ord (span_at spans i).past behind j

  pub not_held_before : (ord i : ℕ) → ord < (span_at spans i).from → is_held spans ord i ≡ false
  not_held_before ord i before = ap (λ b. b && nat_lt ord (span_at spans i).past) (before_is (span_at spans i).from ord before)

  not_held_past : (ord i : ℕ) → (span_at spans i).past ≤ ord → is_held spans ord i ≡ false
  not_held_past ord i past = ap (λ b. nat_le (span_at spans i).from ord && b) (past_is ord (span_at spans i).past past) ∙ and-false (nat_le (span_at spans i).from ord)

  pub none_there : (ord i : ℕ) → length spans ≤ i → is_held spans ord i ≡ false
  none_there ord i past =
      let none = get_or_past spans i no_span past in
      not_held_past ord i (let is = ap (λ (s : Span). s.past) none in omega (arith, is))

  pub held_there : (ord i : ℕ) → is_held spans ord i ≡ true → i < length spans
  held_there ord i e = elim (cases_lt i (length spans)) [
    | inl there ↦ there
    | inr past ↦ absurd (false≢true (sym (none_there ord i past) ∙ e))
  ]

  -- the gaps between those that end before an ordinal and those that begin behind it
  module _ (ord ended old start new : ℕ) (least : old ≤ start) (first : ended ≤ start) (either : (i : ℕ) → old ≤ i → ended ≤ i → start ≤ i) (within : new ≤ length spans)
      (past : (i : ℕ) → i < ended → (span_at spans i).past ≤ ord) (left : (i : ℕ) → ended ≤ i → i < length spans → ord < (span_at spans i).past)
      (begun : (i : ℕ) → start ≤ i → i < new → (span_at spans i).from ≤ ord) (behind : (i : ℕ) → new ≤ i → i < length spans → ord < (span_at spans i).from) where
    pub held_between : (i : ℕ) → i < length spans → (nat_le old i && is_held spans ord i) ≡ (nat_le start i && nat_lt i new)
    held_between i there = elim (cases_lt i old) [
      | inl before ↦ ap (λ b. b && is_held spans ord i) (before_is old i before) ∙ sym (ap (λ b. b && nat_lt i new) (before_is start i (omega arith)))
      | inr from ↦ elim (cases_lt i ended) [
        | inl over ↦
            ap (λ b. nat_le old i && b) (not_held_past ord i (past i over)) ∙ and-false (nat_le old i)
            ∙ sym (ap (λ b. b && nat_lt i new) (before_is start i (omega arith)))
        | inr up ↦ elim (cases_lt i new) [
          | inl inside ↦
              let on = either i from up in
              (λ j. from_is old i from j && held_if ord i (begun i on inside) (left i up there) j) ∙ sym (λ j. from_is start i on j && below_is i new inside j)
          | inr out ↦
              ap (λ b. nat_le old i && b) (not_held_before ord i (behind i out there)) ∙ and-false (nat_le old i)
              ∙ sym (ap (λ b. nat_le start i && b) (past_is i new out) ∙ and-false (nat_le start i))
        ]
      ]
    ]

    pub reaches : start ≤ new → Reaches spans ord old new
    reaches rises = record {
      rises = omega arith;
      within = within;
      behind = λ i out. elim (cases_lt i (length spans)) [
        | inl there ↦ not_held_before ord i (behind i out there)
        | inr none ↦ none_there ord i none
      ];
      settled = λ i later from inside order e.
          let parts = held_parts later i e in
          elim (cases_lt i ended) [
            | inl over ↦ absurd (let h = past i over in let k = parts.1 in omega arith)
            | inr up ↦ held_if ord i (begun i (either i from up) inside) (let k = parts.1 in omega arith)
          ];
    }

  -- before the first ordinal
  pub none_reached : (least : ℕ) → AreReached spans (λ i. false) least 0
  none_reached least = record { within = omega arith; behind = λ i h. refl; settled = λ i ord inside from e. absurd (omega arith) }

  pub alike_reached : (t u : ℕ → Bool) (least reached : ℕ) → ((i : ℕ) → t i ≡ u i) → AreReached spans t least reached → AreReached spans u least reached
  alike_reached t u least reached same r = record {
    within = r.within;
    behind = λ i h. sym (same i) ∙ r.behind i h;
    settled = λ i ord inside from e. sym (same i) ∙ r.settled i ord inside from e;
  }

  -- one ordinal more, which is none of the earlier ones
  module _ (seen : ℕ → Bool) (ord mid new : ℕ) (a : AreReached spans seen ord mid) (b : Reaches spans ord mid new) where
    pub counted_apart : (i : ℕ) → seen i ≡ true → (nat_le mid i && is_held spans ord i) ≡ false
    counted_apart i e = elim (cases_lt i mid) [
      | inl below ↦ ap (λ c. c && is_held spans ord i) (before_is mid i below)
      | inr past ↦ absurd (false≢true (sym (a.behind i past) ∙ e))
    ]

    pub either_counted : (i : ℕ) → (seen i || (nat_le mid i && is_held spans ord i)) ≡ (seen i || is_held spans ord i)
    either_counted i = go (seen i) refl (is_held spans ord i) refl
      where
        go : (s : Bool) → seen i ≡ s → (h : Bool) → is_held spans ord i ≡ h → (seen i || (nat_le mid i && is_held spans ord i)) ≡ (seen i || is_held spans ord i)
        go true s h e = ap (λ c. c || (nat_le mid i && is_held spans ord i)) s ∙ sym (ap (λ c. c || is_held spans ord i) s)
        go false s false e = ap (λ c. seen i || c) (ap (λ c. nat_le mid i && c) e ∙ and-false (nat_le mid i) ∙ sym e)
        go false s true e = elim (cases_lt i mid) [
          | inl below ↦ absurd (false≢true (sym s ∙ a.settled i ord below (omega arith) e))
          | inr past ↦ ap (λ c. seen i || (c && is_held spans ord i)) (from_is mid i past)
        ]

    pub reached_more : (later : ℕ) → ord < later → AreReached spans (λ i. seen i || is_held spans ord i) later new
    reached_more later order = record {
      within = b.within;
      behind = λ i out. let rises = b.rises in ap (λ c. c || is_held spans ord i) (a.behind i (omega arith)) ∙ b.behind i out;
      settled = λ i next inside from e. elim (cases_lt i mid) [
        | inl below ↦ or_left (seen i) (is_held spans ord i) (a.settled i next below (omega arith) e)
        | inr past ↦ or_right (seen i) (is_held spans ord i) (b.settled i next past inside (omega arith) e)
      ];
    }
