-- What the lines of a script add up to are its parts.
use Rattle.std.proofs.Common.{◌≡◌, List, [], ◌∷◌, ◌++◌, length, map, fold, refl, sym, ◌∙◌, ap, subst, arith, append-nil}
use Rattle.std.proofs.lemmas.List.FromFn.{length-map-range_with_len, map-range_with_len_more}
use Rattle.fc_spec.specs.documents.Document.{adding, deleting}
use Rattle.fc_spec.specs.documents.Schema.{Schema}
use Rattle.fc_spec.specs.words.Lists.{numbers_below}
use Rattle.fc_spec.specs.scripts.AskedScripts.{AskedLine, AskedScript}
use Rattle.fc_spec.specs.scripts.Script.{add, delete, commit, sync, asks, commits_up_to}
use Rattle.fc_spec.specs.scripts.Phases.{searches, phase, phases}
use Rattle.fc_spec.specs.scripts.ScriptParts.{parts_of, batches}
use Rattle.fc_spec.specs.scripts.ScriptTotals.{sessions}
use Rattle.fc_spec.proofs.words.MappedLists.{map-same}
use Rattle.fc_spec.proofs.scripts.NumberedLines.{moved}
use Rattle.fc_spec.proofs.scripts.PhasesSoFar.{ended, phase_in, searches_in, up_to_open, phases_sync, phases_other, searches_sync, searches_other}
use Rattle.fc_script.specs.Gathered.{Gathered, nothing, open_phase, after, gathered, gathered_parts}
use Rattle.fc_script.proofs.gathered.ShardsBehind.{shards_behind, shards_at_first, behind_op, behind_commit, behind_other, batches_behind, commits_behind}

-- ---- behind some lines

pub record IsBehind (s : Schema) (front : List AskedLine) (g : Gathered) : Type 0 where
  pub shards : g.shards ≡ shards_behind front s.shards
  pub phases : g.phases ≡ map (phase_in s front) (numbers_below (ended front))
  pub searches : g.searches ≡ searches_in (ended front) (searches front)

pub nothing_behind : (s : Schema) → IsBehind s [] (nothing s)
nothing_behind s = record { shards = shards_at_first 0 s.shards; phases = refl; searches = refl }

pub open_is : (s : Schema) (front : List AskedLine) (g : Gathered) → IsBehind s front g → open_phase g ≡ phase_in s front (ended front)
open_is s front g behind = λ i. record { commits = numbers i; searches = behind.searches i }
  where
    numbers : map (λ x. length x.batches) g.shards ≡ map (λ shard. commits_up_to front shard (ended front)) (numbers_below s.shards)
    numbers =
        ap (map (λ x. length x.batches)) behind.shards ∙ commits_behind front s.shards
        ∙ map-same _ _ (numbers_below s.shards) (λ shard. sym (up_to_open shard front))

pub behind_after : (s : Schema) (front : List AskedLine) (g : Gathered) (l : AskedLine) → IsBehind s front g → IsBehind s (front ++ l ∷ []) (after g l)
behind_after s front g (add shard b) behind = record {
  shards = ap (λ xs. (after (record g { shards = xs }) (add shard b)).shards) behind.shards ∙ behind_op front s.shards shard (add shard b) (adding b) (λ k. refl) (λ k. refl);
  phases = behind.phases ∙ sym (phases_other s front (add shard b) refl);
  searches = behind.searches ∙ sym (append-nil _) ∙ sym (searches_other front (add shard b) refl);
}
behind_after s front g (delete shard id) behind = record {
  shards = ap (λ xs. (after (record g { shards = xs }) (delete shard id)).shards) behind.shards ∙ behind_op front s.shards shard (delete shard id) (deleting id) (λ k. refl) (λ k. refl);
  phases = behind.phases ∙ sym (phases_other s front (delete shard id) refl);
  searches = behind.searches ∙ sym (append-nil _) ∙ sym (searches_other front (delete shard id) refl);
}
behind_after s front g (commit o) behind = record {
  shards = ap (λ xs. (after (record g { shards = xs }) (commit o)).shards) behind.shards ∙ behind_commit front s.shards o;
  phases = behind.phases ∙ sym (phases_other s front (commit o) refl);
  searches = behind.searches ∙ sym (append-nil _) ∙ sym (searches_other front (commit o) refl);
}
behind_after s front g sync behind = record {
  shards = behind.shards ∙ behind_other front s.shards sync (λ k. refl) (λ k. refl);
  phases = (λ i. behind.phases i ++ open_is s front g behind i ∷ []) ∙ sym (phases_sync s front);
  searches = sym (searches_sync front);
}
behind_after s front g (asks session a) behind = record {
  shards = behind.shards ∙ behind_other front s.shards (asks session a) (λ k. refl) (λ k. refl);
  phases = behind.phases ∙ sym (phases_other s front (asks session a) refl);
  searches = (λ i. behind.searches i ++ record { phase = number i; session = session; request = a } ∷ []) ∙ sym (searches_other front (asks session a) refl);
}
  where
    number : length g.phases ≡ ended front
    number = ap (λ ps. length ps) behind.phases ∙ length-map-range_with_len (phase_in s front) 0 (ended front)

-- ---- behind all lines

lines_behind : (s : Schema) (front rest : List AskedLine) (g : Gathered) → IsBehind s front g → IsBehind s (front ++ rest) (fold after g rest)
lines_behind s front [] g behind = subst (λ ls. IsBehind s ls g) (sym (append-nil front)) behind
lines_behind s front (l ∷ ls) g behind = subst (λ all. IsBehind s all (fold after (after g l) ls)) (moved front l ls) (lines_behind s (front ++ l ∷ []) ls (after g l) (behind_after s front g l behind))

pub all_behind : (s : Schema) (lines : List AskedLine) → IsBehind s lines (gathered s lines)
all_behind s lines = lines_behind s [] lines (nothing s) (nothing_behind s)

pub gathered_parts_are : (S : AskedScript) → gathered_parts S.schema (sessions S.lines) (gathered S.schema S.lines) ≡ parts_of S
gathered_parts_are S = λ i. record { schema = S.schema; sessions = sessions S.lines; batches = made i; phases = ends i }
  where
    behind : IsBehind S.schema S.lines (gathered S.schema S.lines)
    behind = all_behind S.schema S.lines

    made : map (λ x. x.batches) (gathered S.schema S.lines).shards ≡ batches S
    made = ap (map (λ x. x.batches)) behind.shards ∙ batches_behind S.lines S.schema.shards

    ends : (gathered S.schema S.lines).phases ++ open_phase (gathered S.schema S.lines) ∷ [] ≡ phases S
    ends =
        (λ i. behind.phases i ++ open_is S.schema S.lines (gathered S.schema S.lines) behind i ∷ [])
        ∙ sym (map-range_with_len_more (phase S) 0 (ended S.lines) (ended S.lines) (omega arith))
