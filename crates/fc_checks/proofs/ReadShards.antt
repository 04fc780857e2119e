-- The batches of a script that was read: what they add, all of them together, is within the limits.
use Rattle.std.proofs.Common.{◌≡◌, ◌≤◌, List, [], ◌∷◌, length, map, Result, Ok, Err, IfOk, refl, sym, ap, subst, arith}
use Rattle.std.specs.Prelude.{All}
use Rattle.std.specs.Arc.{arc_value}
use Rattle.std.proofs.lemmas.List.{take_all}
use Rattle.std.proofs.lemmas.List.Elements.{All-cons, All-map, All-nil, All-weaker}
use Rattle.std.proofs.lemmas.List.Sums.{sum_by-append}
use Rattle.fc_spec.specs.documents.Document.{Batch}
use Rattle.fc_spec.specs.documents.Operations.{after_ops, blocks_added}
use Rattle.fc_spec.specs.documents.Schema.{Schema}
use Rattle.fc_spec.specs.laws.ScriptLaws.{AddedAreWithin}
use Rattle.fc_spec.specs.words.Lists.{joined}
use Rattle.fc_spec.specs.words.Walks.{◌>>=◌}
use Rattle.fc_spec.specs.scripts.AskedScripts.{AskedScript}
use Rattle.fc_spec.specs.scripts.PinnedWorlds.{world_added, world_at}
use Rattle.fc_spec.specs.scripts.ScriptFault.{ScriptFault}
use Rattle.fc_spec.specs.scripts.ScriptParts.{batches, parts_of}
use Rattle.fc_spec.specs.scripts.ScriptTotals.{script_limits}
use Rattle.fc_spec.specs.scripts.ValidScripts.{IsWithin}
use Rattle.fc_spec.specs.scripts.WorldLimits.{IsWithinLimits}
use Rattle.fc_spec.proofs.scripts.FirstBatches.{first_are_within}
use Rattle.fc_spec.proofs.scripts.WorldTotals.{fewer_within}
use Rattle.fc_script.specs.PartsView.{batches_view, parts_view}
use Rattle.fc_script.specs.SoundScripts as sound
use Rattle.fc_script.specs.SoundScripts.{AreBatchesOf, IsSound}
use Rattle.fc_script.specs.declared.script.Script.{Script}
use Rattle.fc_store.specs.Charters.{IsBatchOf}
use Rattle.fc_run.specs.Searches.{shards_view, Shard}
use Rattle.fc_run.proofs.scripts.Rising.{few_batches}
use Rattle.fc_checks.specs.Shards.{IsShardOf, world_left}

-- ---- all batches of each shard

whole_world : (shards : List (List Batch)) → world_at shards (map (λ bs. length bs) shards) ≡ world_left shards
whole_world [] = refl
whole_world (bs ∷ rest) = (λ i. after_ops [] (joined (take_all (length bs) bs (omega arith) i)) ∷ whole_world rest i)

left_within : (shards : List (List Batch)) → IsWithinLimits (world_added shards) → IsWithinLimits (world_left shards)
left_within shards limits = subst IsWithinLimits (whole_world shards) (first_are_within shards (map (λ bs. length bs) shards) limits)

-- ---- each shard

one_within : (bs : List Batch) (rest : List (List Batch)) → IsWithinLimits (world_added (bs ∷ rest)) → IsWithinLimits (blocks_added (joined bs) ∷ [])
one_within bs rest limits =
    fewer_within (blocks_added (joined bs) ∷ []) (world_added (bs ∷ rest)) (omega arith)
    (λ f. omega (arith, sum_by-append f (blocks_added (joined bs)) [], sum_by-append f (blocks_added (joined bs)) (joined (world_added rest)))) limits

rest_within : (bs : List Batch) (rest : List (List Batch)) → IsWithinLimits (world_added (bs ∷ rest)) → IsWithinLimits (world_added rest)
rest_within bs rest limits =
    fewer_within (world_added rest) (world_added (bs ∷ rest)) (omega arith) (λ f. omega (arith, sum_by-append f (blocks_added (joined bs)) (joined (world_added rest)))) limits

each_within : (shards : List (List Batch)) → IsWithinLimits (world_added shards) → All (λ bs. IsWithinLimits (blocks_added (joined bs) ∷ [])) shards
each_within [] limits = All-nil (λ bs. IsWithinLimits (blocks_added (joined bs) ∷ []))
each_within (bs ∷ rest) limits = All-cons (λ bs. IsWithinLimits (blocks_added (joined bs) ∷ [])) bs rest (one_within bs rest limits) (each_within rest (rest_within bs rest limits))

valid_batches : (s : Schema) (bs : List Batch) → All (sound.IsBatchOf script_limits s) bs → All (IsBatchOf s) bs
valid_batches s bs all = All-weaker (sound.IsBatchOf script_limits s) (IsBatchOf s) (λ b is. record { valid = is.valid; few = is.few }) bs all

valid_shards : (s : Schema) (shards : List Shard) → All (AreBatchesOf script_limits s) shards → All (λ bs. All (IsBatchOf s) bs) (shards_view shards)
valid_shards s shards valid =
    All-map (λ bs. All (IsBatchOf s) bs) (λ (shard : Shard). batches_view shard.items) shards
    (All-weaker (AreBatchesOf script_limits s) (λ shard. All (IsBatchOf s) (batches_view shard.items)) (λ shard is. valid_batches s (batches_view shard.items) is) shards valid)

are_shards : (s : Schema) (shards : List (List Batch)) → All (λ bs. All (IsBatchOf s) bs) shards → All (λ bs. length bs ≤ 4096) shards → IsWithinLimits (world_added shards)
    → All (IsShardOf s) shards
are_shards s shards valid few limits = λ k d below. record { each = valid k d below; few = few k d below; limits = each_within shards limits k d below }

-- ---- a script that was read

pub record AreShards (s : Script) : Type 0 where
  pub shards : All (IsShardOf (arc_value s.schema)) (shards_view s.batches.items)
  pub limits : IsWithinLimits (world_left (shards_view s.batches.items))

in_read : AddedAreWithin → (S : AskedScript) (s : Script) → parts_of S ≡ parts_view s → IsWithin script_limits S → IsSound script_limits s → AreShards s
in_read added S s is within sound = record {
  shards = are_shards (arc_value s.schema) (shards_view s.batches.items)
      (valid_shards (arc_value s.schema) s.batches.items sound.batches)
      (subst (λ parts. All (λ bs. length bs ≤ 4096) parts.batches) is (few_batches S within)) limits;
  limits = left_within (shards_view s.batches.items) limits;
}
  where
    few : S.schema.shards ≤ 64
    few = subst (λ schema. schema.shards ≤ 64) (sym (ap (λ parts. parts.schema) is)) sound.schema.few_shards

    limits : IsWithinLimits (world_added (shards_view s.batches.items))
    limits = subst (λ parts. IsWithinLimits (world_added parts.batches)) is (added S few within)

pub shards_read : AddedAreWithin → (spelled : Result AskedScript ScriptFault) (s : Script) → (spelled >>= λ S. Ok (parts_of S)) ≡ Ok (parts_view s)
    → IfOk spelled (IsWithin script_limits) → IsSound script_limits s → AreShards s
shards_read added (Ok S) s is within sound = in_read added S s (cc) within sound
shards_read added (Err f) s is within sound = absurd (cc)
