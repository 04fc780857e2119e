-- The operations of a shard's batches: of the first ones, and then of those behind them.
use Rattle.std.proofs.Common.{◌≡◌, ℕ, ◌+◌, ◌-◌, ◌≤◌, List, [], ◌++◌, take, drop, flat_map, sym, ◌∙◌, ap, arith, take-add}
use Rattle.std.specs.Prelude.{sum_by}
use Rattle.std.proofs.lemmas.Grind.{flat_map-append}
use Rattle.std.proofs.lemmas.List.{take-map}
use Rattle.std.proofs.lemmas.List.Folds.{flat_map-map}
use Rattle.std.proofs.lemmas.List.Sums.{sum_by-append}
use Rattle.fc_spec.specs.documents.Document as documents
use Rattle.fc_spec.specs.documents.Operations.{after_ops, blocks_added}
use Rattle.fc_spec.specs.words.Lists.{joined}
use Rattle.fc_spec.proofs.documents.LeftBlocks.{added_sum, after_sum, op_measure}
use Rattle.fc_spec.proofs.words.Sums.{sum_by-first}
use Rattle.fc_docs.specs.View.{batch_view}
use Rattle.fc_docs.specs.declared.block.Batch.{Batch}
use Rattle.fc_script.specs.PartsView.{batches_view}

joined_views : (n : ℕ) (batches : List Batch) → joined (take n (batches_view batches)) ≡ flat_map batch_view (take n batches)
joined_views n batches = ap joined (take-map batch_view n batches) ∙ flat_map-map (λ ops. ops) batch_view (take n batches)

-- those of the first batches, and then those of the batches up to a later number
pub ops_begin : (batches : List Batch) (from commits : ℕ) → from ≤ commits
    → joined (take from (batches_view batches)) ++ flat_map batch_view (take (commits - from) (drop from batches)) ≡ joined (take commits (batches_view batches))
ops_begin batches from commits below =
    let rest = take (commits - from) (drop from batches) in
    let all : from + (commits - from) ≡ commits = omega arith in
    ap (λ ops. ops ++ flat_map batch_view rest) (joined_views from batches)
    ∙ sym (flat_map-append batch_view (take from batches) rest)
    ∙ ap (flat_map batch_view) (sym (take-add from (commits - from) batches) ∙ ap (λ n. take n batches) all)
    ∙ sym (joined_views commits batches)

pub part_begins : (batches : List Batch) (from commits : ℕ) → from ≤ commits
    → joined (take from (batches_view batches)) ++ joined (batches_view (take (commits - from) (drop from batches))) ≡ joined (take commits (batches_view batches))
part_begins batches from commits below =
    ap (λ ops. joined (take from (batches_view batches)) ++ ops) (flat_map-map (λ ops. ops) batch_view (take (commits - from) (drop from batches)))
    ∙ ops_begin batches from commits below

-- what the first ones leave and what the others add measure no more than all that is added
pub part_sum : (f : documents.Block → ℕ) (batches : List Batch) (from commits : ℕ) → from ≤ commits
    → sum_by f (after_ops [] (joined (take from (batches_view batches))) ++ blocks_added (joined (batches_view (take (commits - from) (drop from batches))))) ≤ sum_by f (blocks_added (joined (batches_view batches)))
part_sum f batches from commits below =
    let first = joined (take from (batches_view batches)) in
    let rest = joined (batches_view (take (commits - from) (drop from batches))) in
    let both : sum_by (op_measure f) (first ++ rest) ≡ sum_by (op_measure f) (joined (take commits (batches_view batches))) = ap (sum_by (op_measure f)) (part_begins batches from commits below) in
    omega (
      arith,
      sum_by-append f (after_ops [] first) (blocks_added rest),
      after_sum f [] first,
      added_sum f rest,
      sum_by-append (op_measure f) first rest,
      both,
      sum_by-first (op_measure f) commits (batches_view batches),
      added_sum f (joined (batches_view batches)),
    )
