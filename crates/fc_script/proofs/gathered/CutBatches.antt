-- The commits of each phase cut the batches of the shards.
use Rattle.std.proofs.Common.{◌≡◌, ℕ, ◌<◌, ◌≤◌, List, length, All, sym, ◌∙◌, ap, subst, arith, get_or}
use Rattle.std.proofs.lemmas.List.Elements.{All-map}
use Rattle.std.proofs.lemmas.List.FromFn.{length-map-range_with_len, get_or-map-range_with_len}
use Rattle.fc_spec.specs.documents.Document.{Batch}
use Rattle.fc_spec.specs.scripts.AskedScripts.{AskedScript}
use Rattle.fc_spec.specs.scripts.Script.{batch_of, stream, commits_up_to}
use Rattle.fc_spec.specs.scripts.Phases.{phase, numbers_at_end}
use Rattle.fc_spec.specs.scripts.ScriptParts.{parts_of, batches}
use Rattle.fc_spec.proofs.scripts.BatchesSoFar.{commits_in}
use Rattle.fc_spec.proofs.scripts.PhasesSoFar.{up_to_within}
use Rattle.fc_script.specs.CutBatches.{CutBatches}

-- ---- the commits of phases

end_cuts : (S : AskedScript) (p : ℕ) → CutBatches (batches S) (numbers_at_end S p)
end_cuts S p = record { lengths = long ∙ sym streams; within = λ s beyond below. go s beyond (subst (λ n. s < n) streams below) }
  where
    long : length (numbers_at_end S p) ≡ S.schema.shards
    long = length-map-range_with_len (λ s. commits_up_to S.lines s p) 0 S.schema.shards

    streams : length (batches S) ≡ S.schema.shards
    streams = length-map-range_with_len (stream S.lines) 0 S.schema.shards

    go : (s : ℕ) (beyond : List Batch) → s < S.schema.shards → get_or (numbers_at_end S p) s 0 ≤ length (get_or (batches S) s beyond)
    go s beyond below =
        let number : get_or (numbers_at_end S p) s 0 ≡ commits_up_to S.lines s p = get_or-map-range_with_len (λ k. commits_up_to S.lines k p) 0 S.schema.shards s s 0 below (omega arith) in
        let made : length (get_or (batches S) s beyond) ≡ commits_in s S.lines
        = ap (λ bs. length bs) (get_or-map-range_with_len (stream S.lines) 0 S.schema.shards s s beyond below (omega arith)) ∙ length-map-range_with_len (batch_of S.lines s) 0 (commits_in s S.lines) in
        let few = up_to_within s p S.lines in
        omega arith

-- those of each phase are within the batches of the script
pub phases_cut_batches : (S : AskedScript) → All (λ p. CutBatches (parts_of S).batches p.commits) (parts_of S).phases
phases_cut_batches S = All-map (λ p. CutBatches (batches S) p.commits) (phase S) _ (λ k d below. end_cuts S _)
