-- The shards of a script, carried on from phase to phase.
use Rattle.std.proofs.Common.{◌≡◌, ℕ, suc, ◌<◌, ◌≤◌, List, [], ◌∷◌, length, map, get_or, refl, ap, arith}
use Rattle.std.specs.Prelude.{All, slice_index, sum_by}
use Rattle.std.specs.List.{zip}
use Rattle.std.proofs.lemmas.List.Elements.{All-cons, All-head, All-nil, All-tail}
use Rattle.std.proofs.lemmas.List.Sums.{sum_by-append}
use Rattle.fc_spec.specs.documents.Document as documents
use Rattle.fc_spec.specs.documents.Operations.{blocks_added}
use Rattle.fc_spec.specs.documents.Schema.{Schema}
use Rattle.fc_spec.specs.documents.World.{World}
use Rattle.fc_spec.specs.scripts.WorldLimits.{IsWithinLimits}
use Rattle.fc_spec.specs.words.Lists.{joined}
use Rattle.fc_spec.proofs.scripts.WorldTotals.{fewer_within}
use Rattle.fc_docs.specs.declared.block.Batch.{Batch}
use Rattle.fc_script.specs.PartsView.{batches_view}
use Rattle.fc_script.specs.SoundScripts.{CutLists}
use Rattle.fc_search.specs.Schemas.{AreAll}
use Rattle.fc_run.specs.Generations.{AreCommittable, IsCommittable, generations_at}
use Rattle.fc_spec.specs.scripts.PinnedWorlds.{world_added}
use Rattle.fc_run.specs.Searches.{lists_in, shards_view, Shard}
use Rattle.fc_run.specs.Progress.{CanCarry, CanCarryAll, Progress, all_carried, all_progress_at, progress_at}
use Rattle.fc_run.proofs.scripts.Commits.{Fits, can_carry, carried_is}

-- shard by shard
abbrev pub AllFit : Schema → List (List Batch) → List ℕ → Type 0
AllFit s [] numbers = Unit {0}
AllFit s (l ∷ lists) [] = Unit {0}
AllFit s (l ∷ lists) (n ∷ numbers) = Fits s l n × AllFit s lists numbers

-- none of them adds more than the shards of some world together have, which is within the limits
fit_below : (s : Schema) (shards : List Shard) (commits : List ℕ) (W : World) → 1 ≤ length W → IsWithinLimits W → All (IsCommittable s) (shards_view shards)
    → ((i : ℕ) → i < length (lists_in shards) → slice_index commits i ≤ length (get_or (lists_in shards) i []))
    → ((f : documents.Block → ℕ) → sum_by f (joined (world_added (shards_view shards))) ≤ sum_by f (joined W)) → AllFit s (lists_in shards) commits
fit_below s [] commits W some within valid cut less = tt
fit_below s (shard ∷ shards) [] W some within valid cut less = tt
fit_below s (shard ∷ shards) (n ∷ commits) W some within valid cut less =
    let batches = batches_view shard.items in
    let own = blocks_added (joined batches) in
    let both = λ (f : documents.Block → ℕ). sum_by-append f own (joined (world_added (shards_view shards))) in (
      record {
        shard = All-head (IsCommittable s) batches (shards_view shards) valid;
        there = cut 0 (omega arith);
        limits = fewer_within (own ∷ []) W (omega (arith, some)) (λ f. omega (arith, less f, both f, sum_by-append f own [])) within;
      },
      fit_below s shards commits W some within (All-tail (IsCommittable s) batches (shards_view shards) valid) (λ i below. cut (suc i) (omega (arith, below))) (λ f. omega (arith, less f, both f)),
    )

pub all_fit : (s : Schema) (shards : List Shard) (commits : List ℕ) → AreCommittable s (shards_view shards) → CutLists (lists_in shards) commits → IsWithinLimits (world_added (shards_view shards))
    → AllFit s (lists_in shards) commits
all_fit s [] commits valid cut within = tt
all_fit s (shard ∷ shards) commits valid cut within =
    fit_below s (shard ∷ shards) commits (world_added (shards_view (shard ∷ shards))) (omega arith) within valid cut.each (λ f. omega arith)

-- none of the numbers is above that of the other list at its place
abbrev pub Below : List ℕ → List ℕ → Type 0
Below before commits = (i : ℕ) → slice_index before i ≤ slice_index commits i

pub can_carry_all : (s : Schema) (lists : List (List Batch)) (before commits : List ℕ) → AllFit s lists commits → Below before commits → CanCarryAll (all_progress_at s lists before) commits
can_carry_all s [] before commits fit below = All-nil (λ x. CanCarry x.0 x.1)
can_carry_all s (l ∷ lists) [] commits fit below = All-nil (λ x. CanCarry x.0 x.1)
can_carry_all s (l ∷ lists) (m ∷ before) [] fit below = All-nil (λ x. CanCarry x.0 x.1)
can_carry_all s (l ∷ lists) (m ∷ before) (n ∷ commits) fit below =
    All-cons (λ x. CanCarry x.0 x.1) (progress_at s l m, n) (zip (all_progress_at s lists before) commits)
    (can_carry s l m n (below 0) fit.0)
    (can_carry_all s lists before commits fit.1 (λ i. below (suc i)))

pub all_carried_is : (s : Schema) (lists : List (List Batch)) (before commits : List ℕ) → AllFit s lists commits → Below before commits → length before ≡ length lists
    → all_carried (all_progress_at s lists before) commits ≡ all_progress_at s lists commits
all_carried_is s [] before commits fit below same = refl
all_carried_is s (l ∷ lists) [] commits fit below same = absurd (omega arith)
all_carried_is s (l ∷ lists) (m ∷ before) [] fit below same = refl
all_carried_is s (l ∷ lists) (m ∷ before) (n ∷ commits) fit below same =
    (λ i. carried_is s l m n (below 0) fit.0 i ∷ all_carried_is s lists before commits fit.1 (λ k. below (suc k)) (omega (arith, same)) i)

-- what they are
pub progress_count : (s : Schema) (lists : List (List Batch)) (numbers : List ℕ) → length numbers ≡ length lists → length (all_progress_at s lists numbers) ≡ length lists
progress_count s [] numbers same = refl
progress_count s (l ∷ lists) [] same = absurd (omega arith)
progress_count s (l ∷ lists) (n ∷ numbers) same = ap (λ k. suc k) (progress_count s lists numbers (omega (arith, same)))

pub progress_generations : (s : Schema) (shards : List Shard) (numbers : List ℕ) → map (λ (p : Progress). p.generation) (all_progress_at s (lists_in shards) numbers) ≡ generations_at s (shards_view shards) numbers
progress_generations s [] numbers = refl
progress_generations s (shard ∷ shards) [] = refl
progress_generations s (shard ∷ shards) (n ∷ numbers) =
    ap (λ rest. (progress_at s shard.items n).generation ∷ rest) (progress_generations s shards numbers)

pub progress_schemas : (s : Schema) (lists : List (List Batch)) (numbers : List ℕ) → AreAll s (map (λ (p : Progress). p.generation.schema) (all_progress_at s lists numbers))
progress_schemas s [] numbers = All-nil (λ t. t ≡ s)
progress_schemas s (l ∷ lists) [] = All-nil (λ t. t ≡ s)
progress_schemas s (l ∷ lists) (n ∷ numbers) = All-cons (λ t. t ≡ s) s (map (λ (p : Progress). p.generation.schema) (all_progress_at s lists numbers)) refl (progress_schemas s lists numbers)

pub progress_numbers : (s : Schema) (lists : List (List Batch)) (numbers : List ℕ) → length numbers ≡ length lists → map (λ (p : Progress). p.generation.number) (all_progress_at s lists numbers) ≡ numbers
progress_numbers s [] [] same = refl
progress_numbers s [] (n ∷ numbers) same = absurd (omega arith)
progress_numbers s (l ∷ lists) [] same = absurd (omega arith)
progress_numbers s (l ∷ lists) (n ∷ numbers) same = ap (λ rest. n ∷ rest) (progress_numbers s lists numbers (omega (arith, same)))
