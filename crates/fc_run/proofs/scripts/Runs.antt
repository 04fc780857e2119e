-- A script that was read can be run.
use Rattle.std.proofs.Common.{◌≡◌, ◌≤◌, List, length, Result, Ok, Err, IfOk, subst, arith}
use Rattle.std.specs.Prelude.{All}
use Rattle.std.specs.Arc.{arc_value}
use Rattle.std.proofs.lemmas.List.Elements.{All-map, All-weaker}
use Rattle.fc_spec.specs.documents.Document as documents
use Rattle.fc_spec.specs.documents.Schema.{Schema}
use Rattle.fc_spec.specs.words.Walks.{◌>>=◌}
use Rattle.fc_spec.specs.scripts.AskedScripts.{AskedScript}
use Rattle.fc_spec.specs.scripts.Phases.{searches}
use Rattle.fc_spec.specs.scripts.ScriptFault.{ScriptFault}
use Rattle.fc_spec.specs.scripts.ScriptParts.{parts_of}
use Rattle.fc_spec.specs.scripts.ScriptReading.{script_limit}
use Rattle.fc_spec.specs.scripts.ScriptTotals.{script_limits}
use Rattle.fc_spec.specs.scripts.ValidScripts.{IsWithin}
use Rattle.fc_script.specs.PartsView.{batches_view, parts_view}
use Rattle.fc_script.specs.SoundScripts as sound
use Rattle.fc_script.specs.SoundScripts.{AreBatchesOf, IsSound}
use Rattle.fc_script.specs.declared.script.Script.{Script}
use Rattle.fc_store.specs.Charters.{IsBatchOf}
use Rattle.fc_run.specs.Generations.{AreCommittable}
use Rattle.fc_run.specs.RunLaws.{AreRunLaws}
use Rattle.fc_run.specs.Runnable.{IsRunnable}
use Rattle.fc_run.specs.Searches.{shards_view, Shard}
use Rattle.fc_run.proofs.scripts.Limits.{read_within}
use Rattle.fc_run.proofs.scripts.Rising.{few_batches, phases_rise}
use Rattle.fc_run.proofs.scripts.SearchNumbers.{few_searches}
use Rattle.fc_run.proofs.scripts.Sessions.{sessions_differ, sessions_few}

-- as many documents as a script may have, as a commit may bring
batches_of : (s : Schema) (bs : List documents.Batch) → All (sound.IsBatchOf script_limits s) bs → All (IsBatchOf s) bs
batches_of s bs all = All-weaker (sound.IsBatchOf script_limits s) (IsBatchOf s) (λ b is. record { valid = is.valid; few = is.few }) bs all

committable : (s : Schema) (shards : List Shard) → All (AreBatchesOf script_limits s) shards → All (λ bs. length bs ≤ 4096) (shards_view shards)
    → AreCommittable s (shards_view shards)
committable s shards valid few = λ k d below. record { valid = all k d below; few = few k d below }
  where
    view : Shard → List documents.Batch
    view shard = batches_view shard.items

    all : All (λ bs. All (IsBatchOf s) bs) (shards_view shards)
    all =
        All-map (λ bs. All (IsBatchOf s) bs) view shards
        (All-weaker (AreBatchesOf script_limits s) (λ shard. All (IsBatchOf s) (view shard)) (λ shard is. batches_of s (view shard) is) shards valid)

runnable : AreRunLaws → (S : AskedScript) (s : Script) → parts_of S ≡ parts_view s → IsWithin script_limits S → length (searches S.lines) ≤ script_limit → IsSound script_limits s → IsRunnable s
runnable laws S s is within few sound = record {
  some = omega (arith, sound.shards, sound.schema.some_shards);
  few_shards = omega (arith, sound.shards, sound.schema.few_shards);
  few = sessions_few S s is within;
  different = sessions_differ S s is;
  shards = committable (arc_value s.schema) s.batches.items sound.batches
      (subst (λ parts. All (λ bs. length bs ≤ 4096) parts.batches) is (few_batches S within));
  within = read_within laws.added S s is sound.schema.few_shards within;
  phases = λ k d below. record {
    commits = (sound.phases k d below).commits;
    searches = (sound.phases k d below).searches;
  };
  rising = phases_rise S s is;
  few_searches = few_searches laws.by_phase S s is few;
}

pub runnable_script : AreRunLaws → (spelled : Result AskedScript ScriptFault) (s : Script) → (spelled >>= λ S. Ok (parts_of S)) ≡ Ok (parts_view s)
    → IfOk spelled (IsWithin script_limits) → IfOk spelled (λ S. length (searches S.lines) ≤ script_limit) → IsSound script_limits s → IsRunnable s
runnable_script laws (Ok S) s is within few sound = runnable laws S s (cc) within few sound
runnable_script laws (Err f) s is within few sound = absurd (cc)
