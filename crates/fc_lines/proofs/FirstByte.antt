-- The first byte that passes a test stands at the test's position.
use Rattle.std.proofs.Common.{◌≡◌, ℕ, List, Bool, true, false, cond, nat_lt, Option, Some, None, length, get_or, refl, sym, ◌∙◌, ap, arith}
use Rattle.std.specs.List.{position, position_or_len}
use Rattle.std.proofs.lemmas.Bool.{le-ltb, lt-ltb}
use Rattle.std.proofs.lemmas.List.Sums.{position_or_len_is}
use Rattle.memchr.specs.Find.{IsFirstByte}

fails : (b : Bool) → (b ≡ true → ⊥) → b ≡ false
fails true never = absurd (never refl)
fails false never = refl

module _ (test : ℕ → Bool) (bs : List ℕ) where
  placed : (n : ℕ) (within : Bool) → position_or_len test bs ≡ n → nat_lt n (length bs) ≡ within → position test bs ≡ cond within (Some n) None
  placed n within at is = ap (λ k. cond (nat_lt k (length bs)) (Some k) None) at ∙ ap (λ b. cond b (Some n) None) is

  pub first_byte-position : (r : Option ℕ) → IsFirstByte test bs r → r ≡ position test bs
  first_byte-position None nowhere = sym (placed (length bs) false
      (position_or_len_is test bs (length bs) 0 (omega arith) (λ k below. fails (test (get_or bs k 0)) (nowhere k (omega arith) below)) (λ below. absurd (omega arith)))
      (le-ltb (length bs) (length bs) (omega arith)))
  first_byte-position (Some n) first = sym (placed n true
      (position_or_len_is test bs n 0 (omega (arith, first.0.high)) (λ k below. fails (test (get_or bs k 0)) (first.0.before k (omega arith) below)) (λ below. first.1))
      (lt-ltb n (length bs) first.0.high))
