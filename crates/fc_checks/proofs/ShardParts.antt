-- The batches of a shard, in two parts.
use Rattle.std.proofs.Common.{◌≡◌, ℕ, zero, suc, ◌+◌, ◌≤◌, List, [], ◌∷◌, ◌++◌, length, take, drop, refl, sym, ◌∙◌, ap, subst, append-nil, append_assoc, arith}
use Rattle.std.specs.Prelude.{All, sum_by}
use Rattle.std.specs.List.{drop-map}
use Rattle.std.proofs.lemmas.List.{take-map}
use Rattle.std.proofs.lemmas.List.Elements.{All-drop, All-take}
use Rattle.std.proofs.lemmas.List.Sums.{fold-append, sum_by-append}
use Rattle.fc_spec.specs.documents.Document as documents
use Rattle.fc_spec.specs.documents.Document.{Block}
use Rattle.fc_spec.specs.documents.Operations.{after_op, after_ops, blocks_added}
use Rattle.fc_spec.specs.documents.Schema.{Schema}
use Rattle.fc_spec.specs.documents.Totals.{documents_in, document_total}
use Rattle.fc_spec.specs.scripts.WorldLimits.{IsWithinLimits}
use Rattle.fc_spec.specs.words.Lists.{joined}
use Rattle.fc_spec.proofs.documents.LeftBlocks.{added_sum, after_sum, op_measure}
use Rattle.fc_spec.proofs.scripts.WorldTotals.{fewer_within}
use Rattle.fc_docs.specs.View.{batch_view}
use Rattle.fc_docs.specs.declared.block.Batch.{Batch}
use Rattle.fc_run.proofs.scripts.Commits.{all_added, few_documents}
use Rattle.fc_script.specs.PartsView.{batches_view}
use Rattle.fc_store.specs.Charters.{IsBatchOf}
use Rattle.fc_checks.specs.Shards.{IsShardOf}

joined_parts : (n : ℕ) (bs : List Batch) → joined (batches_view (take n bs)) ++ joined (batches_view (drop n bs)) ≡ joined (batches_view bs)
joined_parts zero bs = refl
joined_parts (suc n) [] = refl
joined_parts (suc n) (b ∷ bs) =
    append_assoc (batch_view b) (joined (batches_view (take n bs))) (joined (batches_view (drop n bs))) ∙ ap (λ rest. batch_view b ++ rest) (joined_parts n bs)

-- blocks of one shard within the limits are so many documents at most
few_in : (blocks : List Block) → IsWithinLimits (blocks ∷ []) → document_total blocks ≤ 1_048_576
few_in blocks limits = subst (λ bs. length (documents_in bs) ≤ 1_048_576) (append-nil blocks) (few_documents (documents_in (blocks ++ [])) limits.few)

-- blocks that measure no more
less_within : (few many : List Block) → ((f : Block → ℕ) → sum_by f few ≤ sum_by f many) → IsWithinLimits (many ∷ []) → IsWithinLimits (few ∷ [])
less_within few many less limits =
    fewer_within (few ∷ []) (many ∷ []) (omega arith) (λ f. omega (arith, sum_by-append f few [], sum_by-append f many [], less f)) limits

module _ (s : Schema) (n : ℕ) (bs : List Batch) (shard : IsShardOf s (batches_view bs)) where
  abbrev first : List documents.Op
  first = joined (batches_view (take n bs))

  abbrev others : List documents.Op
  others = joined (batches_view (drop n bs))

  -- what both parts add measures what all add
  both : (f : Block → ℕ) → sum_by f (blocks_added first) + sum_by f (blocks_added others) ≡ sum_by f (blocks_added (joined (batches_view bs)))
  both f =
      let whole = ap (sum_by (op_measure f)) (joined_parts n bs) in
      omega (arith, whole, sum_by-append (op_measure f) first others, added_sum f first, added_sum f others, added_sum f (joined (batches_view bs)))

  pub first_limits : IsWithinLimits (([] ++ blocks_added first) ∷ [])
  first_limits = less_within (blocks_added first) (blocks_added (joined (batches_view bs))) (λ f. omega (arith, both f)) shard.limits

  pub other_limits : IsWithinLimits ((after_ops [] first ++ blocks_added others) ∷ [])
  other_limits =
      less_within (after_ops [] first ++ blocks_added others) (blocks_added (joined (batches_view bs)))
      (λ f. omega (arith, both f, sum_by-append f (after_ops [] first) (blocks_added others), after_sum f [] first, added_sum f first)) shard.limits

  pub first_part : IsBatchOf s first
  first_part = record {
    valid = all_added s (batches_view (take n bs)) (subst (All (IsBatchOf s)) (take-map batch_view n bs) (All-take (IsBatchOf s) n (batches_view bs) shard.each));
    few = few_in (blocks_added first) first_limits;
  }

  pub other_part : IsBatchOf s others
  other_part = record {
    valid = all_added s (batches_view (drop n bs)) (subst (All (IsBatchOf s)) (drop-map batch_view n bs) (All-drop (IsBatchOf s) n (batches_view bs) shard.each));
    few = few_in (blocks_added others) (less_within (blocks_added others) (blocks_added (joined (batches_view bs))) (λ f. omega (arith, both f)) shard.limits);
  }

  -- one part after the other leaves what all leave
  pub left_of_parts : after_ops (after_ops [] first) others ≡ after_ops [] (joined (batches_view bs))
  left_of_parts = sym (fold-append after_op [] first others) ∙ ap (after_ops []) (joined_parts n bs)
