-- Later phases have at least the commits of earlier ones.
use Rattle.std.proofs.Common.{◌≡◌, ℕ, zero, suc, ◌<◌, ◌≤◌, Bool, true, false, cond, ◌&&◌, nat_le, refl, arith}
use Rattle.std.specs.List.{enumerate_from}
use Rattle.std.proofs.lemmas.Bool.{le-leb, leb-true}
use Rattle.std.proofs.lemmas.List.Sums.{sum_by-le-sum_by}
use Rattle.fc_spec.specs.scripts.Script.{Script, commits_shard, phase_of, commits_up_to, commits_before}

-- what is counted up to a phase is counted up to a later one
counted_later : (b : Bool) (n p q : ℕ) → p ≤ q → cond (b && nat_le n p) 1 0 ≤ cond (b && nat_le n q) 1 0
counted_later false n p q h = omega arith
counted_later true n p q h = go (nat_le n p) refl
  where
    go : (c : Bool) → nat_le n p ≡ c → cond c 1 0 ≤ cond (nat_le n q) 1 0
    go false e = omega arith
    go true e = rw (le-leb n q (let t = leb-true n p e in omega arith)) (omega arith)

pub commits_later : {A : Type 0} (S : Script A) (s p q : ℕ) → p ≤ q → commits_up_to S.lines s p ≤ commits_up_to S.lines s q
commits_later S s p q h =
    sum_by-le-sum_by (λ n. cond (commits_shard s n.1 && nat_le (phase_of S.lines n.0) p) 1 0) (λ n. cond (commits_shard s n.1 && nat_le (phase_of S.lines n.0) q) 1 0) (enumerate_from 0 S.lines)
    (λ n. counted_later (commits_shard s n.1) (phase_of S.lines n.0) p q h)

-- the commits up to a phase are before each later phase
pub commits_are_before : {A : Type 0} (S : Script A) (s q p : ℕ) → q < p → commits_up_to S.lines s q ≤ commits_before S.lines s p
commits_are_before S s q zero h = absurd (omega arith)
commits_are_before S s q (suc p) h = commits_later S s q p (omega arith)

-- those before a phase are among those up to its end
pub commits_before_end : {A : Type 0} (S : Script A) (s p : ℕ) → commits_before S.lines s p ≤ commits_up_to S.lines s p
commits_before_end S s zero = omega arith
commits_before_end S s (suc p) = commits_later S s p (suc p) (omega arith)
