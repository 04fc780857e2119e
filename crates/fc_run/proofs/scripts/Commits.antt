-- The commits of a shard between two phases.
use Rattle.std.proofs.Common.{◌≡◌, ℕ, ◌+◌, ◌-◌, ◌≤◌, List, [], ◌∷◌, ◌++◌, length, take, drop, sym, ◌∙◌, ap, subst, arith}
use Rattle.std.specs.Prelude.{All, IsTrue}
use Rattle.std.specs.List.{drop-map}
use Rattle.std.proofs.lemmas.List.{drop-drop, length-drop, length-map, length-take-le, take-map}
use Rattle.std.proofs.lemmas.List.Elements.{All-append, All-drop, All-head, All-nil, All-tail, All-take, filter_map-append}
use Rattle.std.proofs.lemmas.List.Sums.{fold-append, sum_by-append}
use Rattle.fc_spec.specs.documents.Document as documents
use Rattle.fc_spec.specs.documents.Operations.{added_by, after_op, after_ops, blocks_added}
use Rattle.fc_spec.specs.documents.Schema.{Schema}
use Rattle.fc_spec.specs.documents.Totals.{document_total, documents_in, value_count}
use Rattle.fc_spec.specs.documents.ValidBlocks.{IsBlockOf}
use Rattle.fc_spec.specs.scripts.ScriptTotals.{are_few, script_limits}
use Rattle.fc_spec.specs.scripts.WorldLimits.{IsWithinLimits}
use Rattle.fc_spec.specs.words.Lists.{joined}
use Rattle.fc_spec.proofs.documents.BlockTotals.{document_total-append}
use Rattle.fc_spec.proofs.scripts.WorldTotals.{fewer_within}
use Rattle.fc_docs.specs.View.{batch_view}
use Rattle.fc_docs.specs.declared.block.Batch.{Batch}
use Rattle.fc_script.specs.PartsView.{batches_view}
use Rattle.fc_store.specs.Charters.{IsBatchOf}
use Rattle.fc_run.specs.Generations.{IsCommittable}
use Rattle.fc_run.specs.Progress.{CanCarry, carried, progress_at}
use Rattle.fc_run.proofs.scripts.BatchSteps.{part_begins, part_sum}

-- ---- documents

pub few_documents : (ds : List documents.Document) → IsTrue (are_few script_limits ds) → length ds ≤ 1_048_576
few_documents ds few = both.0
  where
    both : (length ds ≤ 1_048_576) × (value_count ds ≤ 16_777_216)
    both = grind (arith, few)

-- what joined batches add is of the schema where what each adds is
pub all_added : (s : Schema) (bs : List documents.Batch) → All (IsBatchOf s) bs → All (IsBlockOf s) (blocks_added (joined bs))
all_added s [] all = All-nil (IsBlockOf s)
all_added s (b ∷ bs) all =
    subst (All (IsBlockOf s)) (sym (filter_map-append added_by b (joined bs)))
    (All-append (IsBlockOf s) (blocks_added b) (blocks_added (joined bs)) (All-head (IsBatchOf s) b bs all).valid (all_added s bs (All-tail (IsBatchOf s) b bs all)))

-- so many of a shard's batches can be committed: they are of the schema, so many, and all that they add is within the limits
pub record Fits (s : Schema) (batches : List Batch) (commits : ℕ) : Type 0 where
  pub shard : IsCommittable s (batches_view batches)
  pub there : commits ≤ length batches
  pub limits : IsWithinLimits (blocks_added (joined (batches_view batches)) ∷ [])

-- from an earlier number on: it can be done, and what it makes
module _ (s : Schema) (batches : List Batch) (from commits : ℕ) (below : from ≤ commits) (fits : Fits s batches commits) where
  abbrev more : ℕ
  more = commits - from

  abbrev part : List Batch
  part = take more (drop from batches)

  abbrev start : List documents.Block
  start = after_ops [] (joined (take from (batches_view batches)))

  whole : from + more ≡ commits
  whole = omega (arith, below)

  long : more ≤ length (drop from batches)
  long = let cut = length-drop from batches in let here = fits.there in omega (arith, cut, here, below)

  number : from + length part ≡ commits
  number = let taken = length-take-le more (drop from batches) long in omega (arith, taken, whole)

  views : batches_view part ≡ take more (drop from (batches_view batches))
  views = sym (take-map batch_view more (drop from batches)) ∙ ap (take more) (sym (drop-map batch_view from batches))

  valid : All (IsBatchOf s) (batches_view part)
  valid =
      subst (All (IsBatchOf s)) (sym views)
      (All-take (IsBatchOf s) more (drop from (batches_view batches)) (All-drop (IsBatchOf s) from (batches_view batches) fits.shard.valid))

  blocks : after_ops start (joined (batches_view part)) ≡ after_ops [] (joined (take commits (batches_view batches)))
  blocks = sym (fold-append after_op [] (joined (take from (batches_view batches))) (joined (batches_view part))) ∙ ap (after_ops []) (part_begins batches from commits below)

  within : IsWithinLimits ((start ++ blocks_added (joined (batches_view part))) ∷ [])
  within =
      fewer_within ((start ++ blocks_added (joined (batches_view part))) ∷ []) (blocks_added (joined (batches_view batches)) ∷ []) (omega arith)
      (λ f. omega (arith, part_sum f batches from commits below, sum_by-append f (start ++ blocks_added (joined (batches_view part))) [], sum_by-append f (blocks_added (joined (batches_view batches))) []))
      fits.limits

  few : document_total (blocks_added (joined (batches_view part))) ≤ 1_048_576
  few =
      let all = few_documents (documents_in ((start ++ blocks_added (joined (batches_view part))) ++ [])) within.few in
      let one = document_total-append (start ++ blocks_added (joined (batches_view part))) [] in
      let both = document_total-append start (blocks_added (joined (batches_view part))) in
      omega (arith, all, one, both)

  pub can_carry : CanCarry (progress_at s batches from) commits
  can_carry = record {
    below = below;
    there = long;
    number = (let count = length-map batches batch_view in let most = fits.shard.few in let here = fits.there in omega (arith, count, most, here, whole));
    each = valid;
    all = record { valid = all_added s (batches_view part) valid; few = few };
    limits = within;
    begun = λ none. ap (λ n. after_ops [] (joined (take n (batches_view batches)))) none;
  }

  pub carried_is : carried (progress_at s batches from) commits ≡ progress_at s batches commits
  carried_is = (λ i. record {
    generation = record { schema = s; number = number i; blocks = blocks i };
    left = (drop-drop more from batches ∙ ap (λ n. drop n batches) whole) i;
  })
