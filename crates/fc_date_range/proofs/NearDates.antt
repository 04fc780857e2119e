-- Which gaps are near a date, and how gaps lie beside each other.
use Rattle.std.proofs.Common.{◌≡◌, ◌⊎◌, inl, inr, ℕ, ◌+◌, ◌<◌, ◌≤◌, Bool, true, false, not, ◌&&◌, ◌||◌, length, sym, ap, ◌∙◌, arith}
use Rattle.std.specs.Ordering.{is_le}
use Rattle.std.proofs.lemmas.Bool.{and_parts, cases_eq, cases_lt, false≢true}
use Rattle.fc_spec.specs.documents.Val.{Text, same_text, text_cmp}
use Rattle.fc_spec.specs.requests.DateGaps.{date_gap_count, date_lies_in, high_date, in_date_gap, is_before, low_date}
use Rattle.fc_spec.specs.requests.Request.{DateRange}
use Rattle.fc_spec.proofs.words.Texts.{equal}
use Rattle.fc_domain.proofs.TextOrder.{le-not_lt, le_from_lt, le_itself, lt_itself, lt_le}
use Rattle.fc_facet.specs.RangeGaps.{HasFewEdges}
use Rattle.fc_range.proofs.NearGaps.{or_cases}
use Rattle.fc_date_range.proofs.Edges.{edge_before, ends_in_order}
use Rattle.fc_date_range.specs.HeldDates.{holds_high, holds_low}

-- what lies in is between the ends
between_ends : (low high t : Text) (with_low with_high : Bool) → is_before low high ≡ true → date_lies_in low with_low high with_high t ≡ true → (is_le (text_cmp low t) ≡ true) × (is_le (text_cmp t high) ≡ true)
between_ends low high t with_low with_high order =
    let P : Type 0 = (is_le (text_cmp low t) ≡ true) × (is_le (text_cmp t high) ≡ true) in
    let inside = is_before low t && is_before t high in
    or_cases {P = P} (inside || (with_low && same_text t low)) (with_high && same_text t high)
    (or_cases {P = P} inside (with_low && same_text t low)
    (λ e. let parts = and_parts (is_before low t) (is_before t high) e in (le_from_lt low t parts.0, le_from_lt t high parts.1))
    (λ e.
    let same : low ≡ t = sym (equal t low (and_parts with_low (same_text t low) e).1) in
    (sym (ap (λ u. is_le (text_cmp low u)) same) ∙ le_itself low, sym (ap (λ u. is_le (text_cmp u high)) same) ∙ le_from_lt low high order)))
    (λ e.
    let same : high ≡ t = sym (equal t high (and_parts with_high (same_text t high) e).1) in
    (sym (ap (λ u. is_le (text_cmp low u)) same) ∙ le_from_lt low high order, sym (ap (λ u. is_le (text_cmp u high)) same) ∙ le_itself high))

-- one that is before another is no later
not_both : (s t : Text) → is_le (text_cmp s t) ≡ true → is_before t s ≡ true → ⊥
not_both s t h k = false≢true (ap not (sym k) ∙ sym (le-not_lt s t) ∙ h)

module _ (g : DateRange) (few : HasFewEdges g) where
  -- a date in a gap is between its ends
  pub held_within : (i : ℕ) (t : Text) → i < date_gap_count g → in_date_gap g i t ≡ true → (is_le (text_cmp (low_date g i) t) ≡ true) × (is_le (text_cmp t (high_date g i)) ≡ true)
  held_within i t there h = between_ends (low_date g i) (high_date g i) t (holds_low g i) (holds_high g i) (ends_in_order g few i there) h

  -- where the edges before a date are so many, it is in no gap but that of this number and the one before
  pub near_gaps : (t : Text) (n : ℕ) → n ≤ length g.edges → ((k : ℕ) → k < n → is_before (low_date g k) t ≡ true) → ((k : ℕ) → n ≤ k → k < length g.edges → is_before (low_date g k) t ≡ false)
      → (i : ℕ) → i < date_gap_count g → in_date_gap g i t ≡ true → (i ≡ n) ⊎ (i + 1 ≡ n)
  near_gaps t n within front rest i there h =
      let ends = held_within i t there h in
      elim (cases_lt (i + 1) n) [
        | inl early ↦ absurd (not_both t (high_date g i) ends.1 (front (i + 1) early))
        | inr late ↦ elim (cases_lt n i) [
          | inl behind ↦
              let before : is_before (low_date g n) t ≡ true = lt_le (low_date g n) (low_date g i) t (edge_before g few n i behind (omega arith)) ends.0 in
              absurd (false≢true (sym (rest n (omega arith) (omega arith)) ∙ before))
          | inr up ↦ elim (cases_eq i n) [
            | inl same ↦ inl same
            | inr other ↦ inr (omega arith)
          ]
        ]
      ]

  -- an edge is no later than those behind it
  edge_up : (i j : ℕ) → i ≤ j → j < length g.edges → is_le (text_cmp (low_date g i) (low_date g j)) ≡ true
  edge_up i j order inside = elim (cases_lt i j) [
    | inl before ↦ le_from_lt (low_date g i) (low_date g j) (edge_before g few i j before inside)
    | inr behind ↦ let same : i ≡ j = omega arith in sym (ap (λ k. is_le (text_cmp (low_date g i) (low_date g k))) same) ∙ le_itself (low_date g i)
  ]

  -- a later date lies in no gap before those of an earlier one
  pub gaps_ascend : (i j : ℕ) (t s : Text) → i < date_gap_count g → j < date_gap_count g → in_date_gap g j s ≡ true → in_date_gap g i t ≡ true → is_before s t ≡ true → j ≤ i
  gaps_ascend i j t s there other held later order = elim (cases_lt i j) [
    | inl before ↦
        let most = (held_within i t there later).1 in
        let least = (held_within j s other held).0 in
        let up = edge_up (i + 1) j (omega arith) (omega arith) in
        let first = lt_le s t (high_date g i) order most in
        let second = lt_le s (high_date g i) (low_date g j) first up in
        let third = lt_le s (low_date g j) s second least in
        absurd (false≢true (sym (lt_itself s) ∙ third))
    | inr after ↦ after
  ]
