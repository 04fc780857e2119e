-- Lists of different shards.
use Rattle.std.proofs.Common.{◌≡◌, ℕ, zero, suc, ◌+◌, ◌<◌, List, [], ◌∷◌, Bool, true, false, cond, ◌==◌, arith}
use Rattle.std.specs.List.{filter, range_with_len, AllByRecursion, IsDistinct}
use Rattle.std.proofs.lemmas.Bool.{ne_eqb}
use Rattle.fc_spec.specs.requests.Request.{Terms, Nodes}
use Rattle.fc_spec.specs.words.Lists.{numbers_below}
use Rattle.fc_spec.specs.documents.Val.{Val, has_val}
use Rattle.fc_spec.specs.replies.Reading.{Reading}
use Rattle.fc_spec.specs.requests.Shape.{counts_all}
use Rattle.fc_spec.specs.replies.Chosen.{known, offering}
use Rattle.fc_reading.specs.Distinct.{AreDistinct}

others_left : (p q : ℕ → Bool) (H : List ℕ) → AllByRecursion (λ j. p j ≡ false) H → AllByRecursion (λ j. p j ≡ false) (filter q H)
others_left p q [] h = tt
others_left p q (i ∷ H) h = go (q i) (others_left p q H h.1)
  where
    go : (b : Bool) → AllByRecursion (λ j. p j ≡ false) (filter q H) → AllByRecursion (λ j. p j ≡ false) (cond b (i ∷ filter q H) (filter q H))
    go true ih = (h.0, ih)
    go false ih = ih

-- what a test leaves of them is different
pub distinct-filter : (q : ℕ → Bool) (H : List ℕ) → AreDistinct H → AreDistinct (filter q H)
unfolding IsDistinct
distinct-filter q [] d = tt
distinct-filter q (i ∷ H) d = go (q i) (distinct-filter q H d.1)
  where
    go : (b : Bool) → AreDistinct (filter q H) → AreDistinct (cond b (i ∷ filter q H) (filter q H))
    go true ih = (others_left (λ j. i == j) q H d.0, ih)
    go false ih = ih

above_start : (n a b : ℕ) → a < b → AllByRecursion (λ j. (a == j) ≡ false) (range_with_len b n)
above_start zero a b h = tt
above_start (suc n) a b h = (ne_eqb a b (λ e. omega arith), above_start n a (b + 1) (omega arith))

distinct_range : (n a : ℕ) → AreDistinct (range_with_len a n)
unfolding IsDistinct
distinct_range zero a = tt
distinct_range (suc n) a = (above_start n a (a + 1) (omega arith), distinct_range n (a + 1))

-- the numbers below another are different
pub distinct_numbers : (n : ℕ) → AreDistinct (numbers_below n)
distinct_numbers n = distinct_range n 0

module _ {B D : Type 0} (R : Reading B D) (t : Terms) (inner : Nodes) (H : List ℕ) (Y : D) where
  pub offering_distinct : (v : Val) → AreDistinct H → AreDistinct (offering R t inner H Y v)
  offering_distinct v d = distinct-filter (λ i. has_val v (R.offered_by t inner Y i)) H d

  -- the shards that are known of a value are different where all are
  pub known_distinct : (v : Val) → AreDistinct H → AreDistinct (known R t inner H Y v)
  known_distinct v d = go (counts_all t inner)
    where
      go : (b : Bool) → AreDistinct (cond b H (offering R t inner H Y v))
      go true = d
      go false = offering_distinct v d
