-- A charter, one batch further.
use Rattle.std.proofs.Common.{◌≡◌, ℕ, zero, suc, ◌+◌, ◌-◌, ◌≤◌, List, [], ◌∷◌, ◌++◌, take, Some, sym, ap, subst, ◌∙◌, append-nil, append_assoc, arith, rules}
use Rattle.std.specs.Prelude.{sum_by}
use Rattle.std.specs.List.{slice_get}
use Rattle.std.proofs.lemmas.List.Sums.{fold-append, sum_by-append}
use Rattle.std.proofs.lemmas.Option.{slice_get_within}
use Rattle.fc_spec.specs.documents.Document.{Block, Batch, Op}
use Rattle.fc_spec.specs.documents.Operations.{after_op, after_ops, blocks_added}
use Rattle.fc_spec.specs.scripts.WorldLimits.{IsWithinLimits}
use Rattle.fc_spec.specs.words.Lists.{joined}
use Rattle.fc_spec.proofs.documents.LeftBlocks.{op_measure, after_sum, added_sum}
use Rattle.fc_spec.proofs.scripts.WorldTotals.{fewer_within}
use Rattle.fc_spec.proofs.words.Sums.{sum_by-first}
use Rattle.fc_store.specs.Generated.{Generated}
use Rattle.fc_store.specs.Charters.{Chartered, IsBegun, IsChartered, KeepsLimits, blocks_at}
use Rattle.fc_store.specs.Rule.{Content, Follows}

joined_suc : (batches : List Batch) (n : ℕ) (batch : Batch) → slice_get batches n ≡ Some batch → joined (take (suc n) batches) ≡ joined (take n batches) ++ batch
joined_suc [] n batch there = search (rules, there)
joined_suc (b ∷ more) zero batch there = let same : b ≡ batch = search (rules, there) in append-nil b ∙ same
joined_suc (b ∷ more) (suc n) batch there = ap (λ (z : List Op). b ++ z) (joined_suc more n batch there) ∙ sym (append_assoc b (joined (take n more)) batch)

-- the start of a charter is its generation of its number
starts_chartered : (charter : Chartered) → IsBegun charter.start → IsChartered charter charter.start
starts_chartered charter begun =
    let none : charter.start.number - charter.start.number ≡ 0 = omega arith in
    (omega arith, sym (ap (λ n. after_ops charter.start.blocks (joined (take n charter.later))) none), omega arith, begun)

pub started : (x : Content) (charter : Chartered) → x.0 ≡ charter → x.1 ≡ charter.start → IsBegun charter.start → IsChartered x.0 x.1
started x charter same is begun = subst (λ c. IsChartered c x.1) (sym same) (subst (IsChartered charter) (sym is) (starts_chartered charter begun))

-- the generation that the next batch leaves follows it
pub next_follows : (x : Content) (g : Generated) (batch : Batch) → IsChartered x.0 x.1 → slice_get x.0.later (x.1.number - x.0.start.number) ≡ Some batch
    → g ≡ record x.1 { number = x.1.number + 1; blocks = after_ops x.1.blocks batch } → Follows x g
next_follows x g batch charted there is =
    let from = x.0.start.number in
    let start = x.0.start.blocks in
    let least : from ≤ x.1.number = charted.2 in
    let one : suc (x.1.number - from) ≡ (x.1.number + 1) - from = omega (arith, least) in
    let number : g.number ≡ x.1.number + 1 = ap (λ (z : Generated). z.number) is in
    let within = slice_get_within x.0.later (x.1.number - from) batch there in
    let blocks : g.blocks ≡ blocks_at x.0 (x.1.number + 1) =
    ap (λ (z : Generated). z.blocks) is ∙ ap (λ (z : List Block). after_ops z batch) charted.1
    ∙ sym (fold-append after_op start (joined (take (x.1.number - from) x.0.later)) batch)
    ∙ ap (λ (z : List Op). after_ops start z) (sym (joined_suc x.0.later (x.1.number - from) batch there) ∙ ap (λ n. joined (take n x.0.later)) one) in
    record {
      schema = ap (λ (z : Generated). z.schema) is;
      charted = (omega (arith, number, within, least), blocks ∙ ap (blocks_at x.0) (sym number), omega (arith, number, least), charted.3);
      next = number;
    }

-- the blocks of a generation and those that the next batch adds measure no more than those that the charter begins with and all that its batches add
measures : (f : Block → ℕ) (start : List Block) (later : List Batch) (n : ℕ) (batch : Batch) → slice_get later n ≡ Some batch
    → sum_by f (joined ((after_ops start (joined (take n later)) ++ blocks_added batch) ∷ [])) ≤ sum_by f (joined ((start ++ blocks_added (joined later)) ∷ []))
measures f start later n batch there =
    let first = joined (take n later) in
    let here = ap (sum_by f) (append-nil (after_ops start first ++ blocks_added batch)) in
    let all = ap (sum_by f) (append-nil (start ++ blocks_added (joined later))) in
    let added = ap (sum_by (op_measure f)) (joined_suc later n batch there) in
    omega (
      arith,
      here,
      all,
      added,
      sum_by-append f (after_ops start first) (blocks_added batch),
      sum_by-append f start (blocks_added (joined later)),
      after_sum f start first,
      added_sum f batch,
      added_sum f (joined later),
      sum_by-append (op_measure f) first batch,
      sum_by-first (op_measure f) (suc n) later,
    )

pub next_within : (x : Content) (batch : Batch) → KeepsLimits x.0 → IsChartered x.0 x.1 → slice_get x.0.later (x.1.number - x.0.start.number) ≡ Some batch
    → IsWithinLimits ((x.1.blocks ++ blocks_added batch) ∷ [])
next_within x batch limits charted there =
    subst (λ bs. IsWithinLimits ((bs ++ blocks_added batch) ∷ [])) (sym charted.1)
    (fewer_within ((after_ops x.0.start.blocks (joined (take (x.1.number - x.0.start.number) x.0.later)) ++ blocks_added batch) ∷ []) _ (omega arith)
    (λ f. measures f x.0.start.blocks x.0.later (x.1.number - x.0.start.number) batch there) limits)
