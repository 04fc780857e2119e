-- The first two shards joined into one: the numbers that places then have tell the same blocks and places apart.
use Rattle.std.proofs.Common.{◌≡◌, ℕ, zero, suc, pred, ◌+◌, ◌<◌, List, length, Bool, true, ◌&&◌, ◌==◌, ap, arith}
use Rattle.std.specs.Prelude.{nat_lt}
use Rattle.std.proofs.lemmas.Bool.{and_parts, and_from, eqb-true, eq-eqb, ltb-true}
use Rattle.fc_spec.specs.documents.Document.{Block}
use Rattle.fc_spec.specs.documents.World.{Place, same_block}
use Rattle.fc_spec.specs.documents.Totals.{document_total}
use Rattle.fc_spec.proofs.words.Members.{same_tests}
use Rattle.fc_spec.proofs.documents.Renumbered.{Numbers, renumbered}

-- what stands ahead of a shard in the joined one: n ahead of the second, nothing ahead of another
abbrev pub ahead : ℕ → ℕ → ℕ
ahead n zero = 0
ahead n (suc zero) = n
ahead n (suc (suc s)) = 0

-- the second shard's places stand behind the blocks of the first, and each later shard's number is one less
abbrev pub joining : List Block → Numbers
joining A = record {
  shard = λ p. pred p.shard;
  position = λ p. ahead (document_total A) p.shard + p.position;
  block = λ p. ahead (length A) p.shard + p.block;
}

-- a block and a position of the first shard are among these blocks
abbrev pub fits_first : List Block → (shard block position : ℕ) → Bool
fits_first A zero b p = nat_lt b (length A) && nat_lt p (document_total A)
fits_first A (suc s) b p = true

-- a place of the first shard is of these blocks
abbrev pub fits : List Block → Place → Bool
fits A p = fits_first A p.shard p.block p.position

-- what that says of the numbers
fits_parts : (A : List Block) (s b p : ℕ) → fits_first A s b p ≡ true → (s ≡ 0 → b < length A) × (s ≡ 0 → p < document_total A)
fits_parts A zero b p h =
    let parts = and_parts (nat_lt b (length A)) (nat_lt p (document_total A)) h in
    ((λ e. ltb-true b (length A) parts.0), (λ e. ltb-true p (document_total A) parts.1))
fits_parts A (suc s) b p h = ((λ e. absurd (omega arith)), (λ e. absurd (omega arith)))

-- numbers that are one after joining were one before
one_before : (n s t a b : ℕ) → (s ≡ 0 → a < n) → (t ≡ 0 → b < n) → pred s ≡ pred t → ahead n s + a ≡ ahead n t + b → (s ≡ t) × (a ≡ b)
one_before n zero (suc zero) a b h k e f = omega arith
one_before n (suc zero) (suc zero) a b h k e f = omega arith
one_before n (suc (suc s)) (suc zero) a b h k e f = omega arith
one_before n _ _ a b h k e f = omega arith

-- so a test of two numbers gives the same
same_numbers : (n s t a b : ℕ) → (s ≡ 0 → a < n) → (t ≡ 0 → b < n) → ((pred s == pred t) && (ahead n s + a == ahead n t + b)) ≡ ((s == t) && (a == b))
same_numbers n s t a b h k = same_tests _ _ forth back
  where
    forth : ((pred s == pred t) && (ahead n s + a == ahead n t + b)) ≡ true → ((s == t) && (a == b)) ≡ true
    forth w =
        let parts = and_parts (pred s == pred t) (ahead n s + a == ahead n t + b) w in
        let same = one_before n s t a b h k (eqb-true (pred s) (pred t) parts.0) (eqb-true (ahead n s + a) (ahead n t + b) parts.1) in
        and_from (s == t) (a == b) (eq-eqb s t same.0) (eq-eqb a b same.1)

    back : ((s == t) && (a == b)) ≡ true → ((pred s == pred t) && (ahead n s + a == ahead n t + b)) ≡ true
    back w =
        let parts = and_parts (s == t) (a == b) w in
        let u = eqb-true s t parts.0 in
        let v = eqb-true a b parts.1 in
        and_from (pred s == pred t) (ahead n s + a == ahead n t + b) (eq-eqb (pred s) (pred t) (ap pred u)) (eq-eqb (ahead n s + a) (ahead n t + b) (λ i. ahead n (u i) + v i))

-- places are of one block where they were before
pub same_blocks_joining : (A : List Block) (x y : Place) → fits A x ≡ true → fits A y ≡ true → same_block (renumbered (joining A) x) (renumbered (joining A) y) ≡ same_block x y
same_blocks_joining A x y h k =
    same_numbers (length A) x.shard y.shard x.block y.block (fits_parts A x.shard x.block x.position h).0 (fits_parts A y.shard y.block y.position k).0
