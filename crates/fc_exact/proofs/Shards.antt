-- One more of a list with a member for each of some numbers.
use Rattle.std.proofs.Common.{◌≡◌, ℕ, zero, suc, ◌+◌, [], ◌∷◌, ◌++◌, map, ◌∙◌, ap, arith}
use Rattle.std.specs.List.{range_with_len}

-- for one shard more
pub one_more : {X : Type 0} (f : ℕ → X) (n from : ℕ) → map f (range_with_len from n) ++ f (from + n) ∷ [] ≡ map f (range_with_len from (n + 1))
one_more f n from = go n from ∙ ap (λ k. map f (range_with_len from k)) (let e : suc n ≡ n + 1 = omega arith in e)
  where
    go : (k a : ℕ) → map f (range_with_len a k) ++ f (a + k) ∷ [] ≡ map f (range_with_len a (suc k))
    go zero a = ap (λ b. f b ∷ []) (omega arith)
    go (suc k) a = ap (λ ys. f a ∷ ys) (ap (λ b. map f (range_with_len (a + 1) k) ++ f b ∷ []) (let e : a + suc k ≡ (a + 1) + k = omega arith in e) ∙ go k (a + 1))

pub one_shard_more : {X : Type 0} (f : ℕ → X) (n : ℕ) → map f (range_with_len 0 n) ++ f n ∷ [] ≡ map f (range_with_len 0 (n + 1))
one_shard_more f n = ap (λ k. map f (range_with_len 0 n) ++ f k ∷ []) (let e : n ≡ 0 + n = omega arith in e) ∙ one_more f n 0
