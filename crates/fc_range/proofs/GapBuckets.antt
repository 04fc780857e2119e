-- The buckets of the gaps that are there, by their numbers.
use Rattle.std.proofs.Common.{◌≡◌, ◌<◌, ℕ, true, false, List, inl, refl, ap, arith}
use Rattle.std.specs.Prelude.{nat_lt}
use Rattle.std.proofs.lemmas.Bool.{false_from_ne_true, false≢true}
use Rattle.fc_spec.specs.documents.Document.{Block}
use Rattle.fc_spec.specs.messages.KeyOrder.{same_key}
use Rattle.fc_spec.specs.requests.Buckets.{Key, value, missing, gap, before, between, after, whole}
use Rattle.fc_spec.specs.requests.Request.{Kind}
use Rattle.fc_spec.proofs.messages.Keys.{same_key_exact}
use Rattle.fc_count.proofs.CountedBuckets.{IsCountedOrNone}
use Rattle.fc_range.proofs.Tests.{below_is, is_below}
use Rattle.fc_range.specs.GapKeys.{gap_key, is_gap_below}

number_of : Key → ℕ
number_of (gap i) = i
number_of k = 0

-- different gaps have different keys
pub other_gap : (i j : ℕ) → (i ≡ j → ⊥) → same_key (gap i) (gap j) ≡ false
unfolding number_of
other_gap i j other = false_from_ne_true (same_key (gap i) (gap j)) (λ e. other (ap number_of (same_key_exact (gap i) (gap j) e)))

module _ (count bound : ℕ) (all : count ≡ bound) where
  pub gap_there : (i : ℕ) → i < bound → nat_lt i count ≡ true
  gap_there i here = below_is i count (omega (arith, all))

  -- each key of a gap is that of a number
  pub gap_found : (kind : Kind) (blocks : List Block) (k : Key) → is_gap_below count k ≡ true → IsCountedOrNone blocks kind gap_key bound k
  gap_found kind blocks (gap i) h = inl (i, (let here = is_below i count h in omega (arith, all), refl))
  gap_found kind blocks (value v) h = absurd (false≢true h)
  gap_found kind blocks missing h = absurd (false≢true h)
  gap_found kind blocks before h = absurd (false≢true h)
  gap_found kind blocks between h = absurd (false≢true h)
  gap_found kind blocks after h = absurd (false≢true h)
  gap_found kind blocks whole h = absurd (false≢true h)
