-- The lines of a phase, over the batches of its stores and over those of the script.
use Rattle.std.proofs.Common.{◌≡◌, ℕ, suc, ◌-◌, ◌≤◌, List, [], ◌∷◌, Bool, true, false, length, take, drop, flat_map, Some, Ok, Err, refl, sym, ◌∙◌, ap, arith}
use Rattle.std.specs.Prelude.{sum_by, if◌then◌else◌}
use Rattle.std.proofs.lemmas.List.{take-map, take-take}
use Rattle.std.proofs.lemmas.List.Folds.{flat_map-map}
use Rattle.std.proofs.lemmas.List.Sums.{fold-append, sum_by-append}
use Rattle.fc_spec.specs.documents.Document as documents
use Rattle.fc_spec.specs.documents.Operations.{after_op, after_ops, blocks_added}
use Rattle.fc_spec.specs.documents.Schema.{Schema}
use Rattle.fc_spec.specs.documents.Val.{Text, same_text}
use Rattle.fc_spec.specs.messages.WholeTrace.{whole_trace}
use Rattle.fc_spec.specs.scripts.AskedScripts.{Asked}
use Rattle.fc_spec.specs.scripts.Lines.{reply_line}
use Rattle.fc_spec.specs.scripts.Outputs.{Replies}
use Rattle.fc_spec.specs.scripts.Phases.{Search}
use Rattle.fc_spec.specs.scripts.PinnedWorlds.{world_added, world_at}
use Rattle.fc_spec.specs.scripts.SearchLines.{least_after, SearchLine, ArePhaseLines, IsLineOver}
use Rattle.fc_spec.specs.scripts.WorldLimits.{IsWithinLimits}
use Rattle.fc_spec.specs.words.Lists.{joined}
use Rattle.fc_spec.proofs.scripts.WorldTotals.{fewer_within}
use Rattle.fc_docs.specs.View.{batch_view}
use Rattle.fc_docs.specs.declared.block.Batch.{Batch}
use Rattle.fc_script.specs.PartsView.{batches_view}
use Rattle.fc_store.proofs.OwnIds.{own_ids_after}
use Rattle.fc_work.specs.Pinned.{batches_of}
use Rattle.fc_work.proofs.Batches.{held_adds, held_blocks}
use Rattle.fc_run.specs.Phased.{chartered_batches}
use Rattle.fc_run.specs.Progress.{all_progress_at, charter_to, progress_at}
use Rattle.fc_run.specs.Searches.{Shard, lists_in, shards_view}
use Rattle.fc_run.proofs.scripts.BatchSteps.{ops_begin, part_sum}
use Rattle.fc_run.proofs.scripts.Carried.{Below}

-- ---- one shard

joined_part : (j k : ℕ) (batches : List Batch) → j ≤ k → joined (take j (batches_view (take k batches))) ≡ flat_map batch_view (take j batches)
joined_part j k batches below =
    ap joined (take-map batch_view j (take k batches) ∙ ap batches_view (take-take j k batches below))
    ∙ flat_map-map (λ bs. bs) batch_view (take j batches)

pub front_is : (s : Schema) (batches : List Batch) (from commits n : ℕ) → from ≤ n → n ≤ commits
    → after_ops [] (joined (take n (batches_of (charter_to (progress_at s batches from) commits)))) ≡ after_ops [] (joined (take n (batches_view batches)))
front_is s batches from commits n above below =
    let first = joined (take from (batches_view batches)) in
    let later = batches_view (take (commits - from) (drop from batches)) in
    sym (held_blocks from n (after_ops [] first) later (λ none. ap (λ k. after_ops [] (joined (take k (batches_view batches)))) none) (own_ids_after [] first refl) above)
    ∙ ap (after_ops (after_ops [] first)) (joined_part (n - from) (commits - from) (drop from batches) (omega (arith, above, below)))
    ∙ sym (fold-append after_op [] first (flat_map batch_view (take (n - from) (drop from batches))))
    ∙ ap (after_ops []) (ops_begin batches from n above)

-- all that a store may publish is added by the shard's batches
charter_sum : (f : documents.Block → ℕ) (s : Schema) (batches : List Batch) (from commits : ℕ) → from ≤ commits
    → sum_by f (blocks_added (joined (batches_of (charter_to (progress_at s batches from) commits)))) ≤ sum_by f (blocks_added (joined (batches_view batches)))
charter_sum f s batches from commits below =
    let first = joined (take from (batches_view batches)) in
    let adds = ap (sum_by f) (held_adds from (after_ops [] first) (batches_view (take (commits - from) (drop from batches))) (λ none. ap (λ k. after_ops [] (joined (take k (batches_view batches)))) none)) in
    omega (arith, adds, part_sum f batches from commits below)

-- ---- all shards

pub worlds_same : (s : Schema) (shards : List Shard) (before commits g : List ℕ) → length before ≡ length shards → length commits ≡ length shards
    → Below before g → Below g commits → world_at (chartered_batches (all_progress_at s (lists_in shards) before) commits) g ≡ world_at (shards_view shards) g
worlds_same s [] before commits g same count above below = refl
worlds_same s (shard ∷ shards) [] commits g same count above below = absurd (omega (arith, same))
worlds_same s (shard ∷ shards) (m ∷ before) [] g same count above below = absurd (omega (arith, count))
worlds_same s (shard ∷ shards) (m ∷ before) (n ∷ commits) [] same count above below = refl
worlds_same s (shard ∷ shards) (m ∷ before) (n ∷ commits) (k ∷ g) same count above below =
    let first = front_is s shard.items m n k (above 0) (below 0) in
    let rest = worlds_same s shards before commits g (omega (arith, same)) (omega (arith, count)) (λ i. above (suc i)) (λ i. below (suc i)) in
    λ i. first i ∷ rest i

-- all that the stores of a phase may publish is added by the batches of the script
no_more_charters : (s : Schema) (shards : List Shard) (before commits : List ℕ)
    → length (world_added (chartered_batches (all_progress_at s (lists_in shards) before) commits)) ≤ length (world_added (shards_view shards))
no_more_charters s [] before commits = omega arith
no_more_charters s (shard ∷ shards) [] commits = omega arith
no_more_charters s (shard ∷ shards) (m ∷ before) [] = omega arith
no_more_charters s (shard ∷ shards) (m ∷ before) (n ∷ commits) = let rest = no_more_charters s shards before commits in omega (arith, rest)

charters_sum : (f : documents.Block → ℕ) (s : Schema) (shards : List Shard) (before commits : List ℕ) → Below before commits
    → sum_by f (joined (world_added (chartered_batches (all_progress_at s (lists_in shards) before) commits))) ≤ sum_by f (joined (world_added (shards_view shards)))
charters_sum f s [] before commits below = omega arith
charters_sum f s (shard ∷ shards) [] commits below = omega arith
charters_sum f s (shard ∷ shards) (m ∷ before) [] below = omega arith
charters_sum f s (shard ∷ shards) (m ∷ before) (n ∷ commits) below =
    let first = charter_sum f s shard.items m n (below 0) in
    let rest = charters_sum f s shards before commits (λ i. below (suc i)) in
    omega (
      arith,
      first,
      rest,
      sum_by-append f (blocks_added (joined (batches_of (charter_to (progress_at s shard.items m) n)))) (joined (world_added (chartered_batches (all_progress_at s (lists_in shards) before) commits))),
      sum_by-append f (blocks_added (joined (batches_view shard.items))) (joined (world_added (shards_view shards))),
    )

pub charters_within : (s : Schema) (shards : List Shard) (before commits : List ℕ) → Below before commits → IsWithinLimits (world_added (shards_view shards))
    → IsWithinLimits (world_added (chartered_batches (all_progress_at s (lists_in shards) before) commits))
charters_within s shards before commits below within =
    fewer_within (world_added (chartered_batches (all_progress_at s (lists_in shards) before) commits)) (world_added (shards_view shards)) (no_more_charters s shards before commits)
    (λ f. charters_sum f s shards before commits below) within

-- ---- lines

-- numbers that a session has shown are no lower
least_above : (low g : List ℕ) (least : Text → List ℕ) (session c : Text) → Below low g → ((c : Text) → Below low (least c)) → Below low (least_after least session g c)
least_above low g least session c here all = go (same_text session c)
  where
    go : (b : Bool) → Below low (if b then g else least c)
    go true = here
    go false = all c

-- over shards of the same worlds a phase has the same lines
module _ (reply : Replies) (A B : List (List documents.Batch)) (low high : List ℕ) (same : (g : List ℕ) → Below low g → Below g high → world_at A g ≡ world_at B g) where
  same_line : (from : List ℕ) (session : Text) (a : Asked) (Then Later : List ℕ → Type 0) (l : SearchLine) → Below low from → ((g : List ℕ) → Below low g → Then g → Later g)
      → IsLineOver reply A from high session a Then l → IsLineOver reply B from high session a Later l
  same_line from session (Ok r) Then Later l least next (g, between, text, sent, more) = (
    g,
    between,
    text ∙ ap (λ W. reply_line (reply r W) g session) (same g above between.below),
    sent ∙ ap (λ W. Some (whole_trace r W)) (same g above between.below),
    next g above more,
  )
    where
      above : Below low g
      above i = let first = least i in let then_ = between.above i in omega (arith, first, then_)
  same_line from session (Err f) Then Later l least next (text, sent, more) = (text, sent, next from least more)

  pub same_lines : (least : Text → List ℕ) (qs : List (Search Asked)) (ls : List SearchLine) → ((c : Text) → Below low (least c)) → ArePhaseLines reply A high least qs ls → ArePhaseLines reply B high least qs ls
  same_lines least [] [] all are = are
  same_lines least [] (l ∷ ls) all are = absurd are
  same_lines least (q ∷ qs) [] all are = absurd are
  same_lines least (q ∷ qs) (l ∷ ls) all are =
      same_line (least q.session) q.session q.request (λ g. ArePhaseLines reply A high (least_after least q.session g) qs ls) (λ g. ArePhaseLines reply B high (least_after least q.session g) qs ls) l (all q.session)
      (λ g above more. same_lines (least_after least q.session g) qs ls (λ c. least_above low g least q.session c above all) more)
      are
