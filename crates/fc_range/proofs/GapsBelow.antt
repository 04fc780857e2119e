-- What is collected of the gaps below a number, one after another.
use Rattle.std.proofs.Common.{◌≡◌, ◌+◌, ℕ, true, false, ◌||◌, List, inl, inr, refl, sym, ap, ◌∙◌, arith}
use Rattle.std.specs.Prelude.{nat_lt}
use Rattle.std.proofs.lemmas.Bool.{cases_eq, false≢true}
use Rattle.std.proofs.Math.Bool.{or-false, or-true}
use Rattle.fc_spec.specs.documents.World.{Place}
use Rattle.fc_spec.specs.messages.KeyOrder.{same_key}
use Rattle.fc_spec.specs.requests.Buckets.{Key, value, missing, gap, before, between, after, whole}
use Rattle.fc_spec.specs.requests.Gaps.{gap_count}
use Rattle.fc_spec.specs.requests.Request.{Kind, Range, Stat}
use Rattle.fc_spec.proofs.messages.Keys.{same_key_itself}
use Rattle.fc_partial.specs.Tallied.{Tallied}
use Rattle.fc_kind.specs.Collecting.{CollectsAmong}
use Rattle.fc_kind.proofs.CollectedParts.{among_none, among_same, both_parts}
use Rattle.fc_range.proofs.GapBuckets.{other_gap}
use Rattle.fc_range.proofs.Tests.{below_is, below_more, is_below, past_is}
use Rattle.fc_range.specs.GapKeys.{is_gap_below, is_gap_of}

none_below : (k : Key) → is_gap_below 0 k ≡ false
none_below (gap i) = past_is i 0 (omega arith)
none_below (value v) = refl
none_below missing = refl
none_below before = refl
none_below between = refl
none_below after = refl
none_below whole = refl

pub not_below : (n : ℕ) → is_gap_below n (gap n) ≡ false
not_below n = past_is n n (omega arith)

one_more : (n : ℕ) (k : Key) → is_gap_below (n + 1) k ≡ (is_gap_below n k || same_key k (gap n))
one_more n (gap i) = elim (cases_eq i n) [
  | inl e ↦
      below_is i (n + 1) (omega (arith, e))
      ∙ sym (ap (λ b. nat_lt i n || b) (ap (λ j. same_key (gap j) (gap n)) e ∙ same_key_itself (gap n)) ∙ or-true (nat_lt i n))
  | inr other ↦ below_more i n other ∙ sym (ap (λ b. nat_lt i n || b) (other_gap i n other) ∙ or-false (nat_lt i n))
]
one_more n (value v) = refl
one_more n missing = refl
one_more n before = refl
one_more n between = refl
one_more n after = refl
one_more n whole = refl

apart : (n : ℕ) (k : Key) → is_gap_below n k ≡ true → same_key k (gap n) ≡ false
apart n (gap i) e = other_gap i n (λ same. let below = is_below i n e in omega (arith, same))
apart n (value v) e = absurd (false≢true e)
apart n missing e = absurd (false≢true e)
apart n before e = absurd (false≢true e)
apart n between e = absurd (false≢true e)
apart n after e = absurd (false≢true e)
apart n whole e = absurd (false≢true e)

module _ (kind : Kind) (ss : List Stat) (Y : List Place) where
  -- before the first gap
  pub none_collected : (t : Tallied) → CollectsAmong (is_gap_below 0) kind ss Y t t
  none_collected t = among_same (λ k. false) (is_gap_below 0) kind ss Y t t none_below (among_none kind ss Y t)

  -- with one gap more
  pub more_collected : (n : ℕ) (old mid new : Tallied) → CollectsAmong (is_gap_below n) kind ss Y old mid → CollectsAmong (λ k. same_key k (gap n)) kind ss Y mid new
      → CollectsAmong (is_gap_below (n + 1)) kind ss Y old new
  more_collected n old mid new below one =
      among_same (λ k. is_gap_below n k || same_key k (gap n)) (is_gap_below (n + 1)) kind ss Y old new (one_more n)
      (both_parts (is_gap_below n) (λ k. same_key k (gap n)) kind ss Y old mid new (apart n) below one)

  -- of all gaps
  pub all_collected : (g : Range) (n : ℕ) (old new : Tallied) → gap_count g ≡ n → CollectsAmong (is_gap_below n) kind ss Y old new → CollectsAmong (is_gap_of g) kind ss Y old new
  all_collected g n old new e below = among_same (is_gap_below n) (is_gap_of g) kind ss Y old new (λ k. ap (λ m. is_gap_below m k) e) below
