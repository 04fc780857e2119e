-- What is counted over lines are the numbers of what they add up to.
use Rattle.std.proofs.Common.{◌≡◌, List, [], ◌∷◌, ◌++◌, length, nat_le, ◌∙◌, ap}
use Rattle.std.specs.List.{list_all}
use Rattle.std.proofs.lemmas.List.Folds.{list_all-map}
use Rattle.std.proofs.lemmas.List.FromFn.{length-map-range_with_len}
use Rattle.std.proofs.lemmas.List.Sums.{fold-append}
use Rattle.fc_spec.specs.documents.Schema.{Schema}
use Rattle.fc_spec.specs.words.Lists.{numbers_below}
use Rattle.fc_spec.specs.scripts.AskedScripts.{AskedLine}
use Rattle.fc_spec.specs.scripts.Script.{batch_of}
use Rattle.fc_spec.specs.scripts.ScriptTotals.{few_commits, few_syncs}
use Rattle.fc_spec.proofs.scripts.BatchesSoFar.{commits_in}
use Rattle.fc_spec.proofs.scripts.PhasesSoFar.{ended, phase_in}
use Rattle.fc_script.specs.Gathered.{after, gathered, has_few, nothing}
use Rattle.fc_script.proofs.gathered.GatheredParts.{all_behind}
use Rattle.fc_script.proofs.gathered.ShardsBehind.{shard_behind}

-- with a line behind the others
pub gathered-push : (s : Schema) (ls : List AskedLine) (l : AskedLine) → gathered s (ls ++ l ∷ []) ≡ after (gathered s ls) l
gathered-push s ls l = fold-append after (nothing s) ls (l ∷ [])

-- whether the commits of each shard are few
pub few_commits_are : (s : Schema) (ls : List AskedLine) → list_all has_few (gathered s ls).shards ≡ few_commits s ls
few_commits_are s ls =
    ap (list_all has_few) (all_behind s ls).shards ∙ list_all-map has_few (shard_behind ls) (numbers_below s.shards)
    ∙ (λ i. list_all (λ k. nat_le (length-map-range_with_len (batch_of ls k) 0 (commits_in k ls) i) 4096) (numbers_below s.shards))

-- whether those of phases are
pub few_syncs_are : (s : Schema) (ls : List AskedLine) → nat_le (length (gathered s ls).phases) 4096 ≡ few_syncs ls
few_syncs_are s ls = ap (λ ps. nat_le (length ps) 4096) (all_behind s ls).phases ∙ ap (λ n. nat_le n 4096) (length-map-range_with_len (phase_in s ls) 0 (ended ls))
