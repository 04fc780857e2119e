-- The batches of a charter.
use Rattle.std.proofs.Common.{◌≡◌, ℕ, zero, suc, ◌+◌, ◌-◌, ◌≤◌, List, [], ◌∷◌, ◌++◌, length, map, replicate, take, refl, sym, ◌∙◌, ap, arith}
use Rattle.std.proofs.lemmas.List.{length-append, length-replicate}
use Rattle.std.proofs.lemmas.List.Elements.{filter_map-append}
use Rattle.std.proofs.lemmas.List.Sums.{fold-append}
use Rattle.fc_spec.specs.documents.Document.{Batch, Block, Op, adding}
use Rattle.fc_spec.specs.documents.Operations.{added_by, after_op, after_ops, blocks_added}
use Rattle.fc_spec.specs.words.Lists.{joined}
use Rattle.fc_store.specs.Charters.{Chartered, IsChartered, blocks_at, last_number}
use Rattle.fc_store.specs.Ends.{Writing}
use Rattle.fc_store.specs.Generated.{Generated}
use Rattle.fc_store.specs.OwnIds.{HaveOwnIds}
use Rattle.fc_work.specs.Ends.{last_of}
use Rattle.fc_work.specs.Pinned.{batches_of, held}

held_count : (n : ℕ) (blocks : List Block) → length (held n blocks) ≡ n
held_count zero blocks = refl
held_count (suc n) blocks = ap (λ k. suc k) (length-replicate n [])

pub batches_count : (c : Chartered) → length (batches_of c) ≡ last_number c
batches_count c = length-append (held c.start.number c.start.blocks) c.later ∙ ap (λ n. n + length c.later) (held_count c.start.number c.start.blocks)

-- empty batches in front add nothing
empty_front : (n k : ℕ) (later : List Batch) → n ≤ k → joined (take k (replicate n [] ++ later)) ≡ joined (take (k - n) later)
empty_front zero k later below = let same : k ≡ k - 0 = omega arith in ap (λ j. joined (take j later)) same
empty_front (suc n) zero later below = absurd (omega (arith, below))
empty_front (suc n) (suc k) later below =
    let same : k - n ≡ suc k - suc n = omega arith in
    empty_front n k later (omega (arith, below)) ∙ ap (λ j. joined (take j later)) same

-- the blocks, once all are added, and what operations behind them leave
added_first : (blocks : List Block) (ops : List Op) → HaveOwnIds blocks → after_ops [] (map adding blocks ++ ops) ≡ after_ops blocks ops
added_first blocks ops all = fold-append after_op [] (map adding blocks) ops ∙ ap (λ bs. after_ops bs ops) all

pub held_blocks : (from n : ℕ) (blocks : List Block) (later : List Batch) → (from ≡ 0 → blocks ≡ []) → HaveOwnIds blocks → from ≤ n
    → after_ops blocks (joined (take (n - from) later)) ≡ after_ops [] (joined (take n (held from blocks ++ later)))
held_blocks zero n blocks later begun all below =
    let same : n - 0 ≡ n = omega arith in
    ap (λ bs. after_ops bs (joined (take (n - 0) later))) (begun refl) ∙ ap (λ j. after_ops [] (joined (take j later))) same
held_blocks (suc from) zero blocks later begun all below = absurd (omega (arith, below))
held_blocks (suc from) (suc n) blocks later begun all below =
    let same : suc n - suc from ≡ n - from = omega arith in
    ap (after_ops blocks) (ap (λ j. joined (take j later)) same ∙ sym (empty_front from n later (omega (arith, below))))
    ∙ sym (added_first blocks (joined (take n (replicate from [] ++ later))) all)

-- those of a generation of the charter are what its first batches leave
pub charted_blocks : (c : Chartered) (g : Generated) → IsChartered c g → g.blocks ≡ after_ops [] (joined (take g.number (batches_of c)))
charted_blocks c g is = is.1 ∙ held_blocks c.start.number g.number c.start.blocks c.later is.3.0 is.3.1 is.2

-- ---- what they add

added_are : (blocks : List Block) → blocks_added (map adding blocks) ≡ blocks
added_are [] = refl
added_are (b ∷ blocks) = ap (λ rest. b ∷ rest) (added_are blocks)

all_behind : (n : ℕ) (later : List Batch) → joined (replicate n [] ++ later) ≡ joined later
all_behind zero later = refl
all_behind (suc n) later = all_behind n later

-- all that the batches of a charter add are the blocks of its start, and what those behind it add
pub held_adds : (n : ℕ) (blocks : List Block) (later : List Batch) → (n ≡ 0 → blocks ≡ []) → blocks_added (joined (held n blocks ++ later)) ≡ blocks ++ blocks_added (joined later)
held_adds zero blocks later begun = ap (λ bs. bs ++ blocks_added (joined later)) (sym (begun refl))
held_adds (suc n) blocks later begun =
    filter_map-append added_by (map adding blocks) (joined (replicate n [] ++ later))
    ∙ (λ i. added_are blocks i ++ blocks_added (all_behind n later i))

-- ---- the generation that a store has published last

pub last_is : (w : Writing) (g : Generated) → g.schema ≡ w.schema → IsChartered w.charter g → g.number ≡ w.number → g ≡ last_of w
last_is w g schema charted number = λ i. record { schema = schema i; number = number i; blocks = (charted.1 ∙ ap (blocks_at w.charter) number) i }
