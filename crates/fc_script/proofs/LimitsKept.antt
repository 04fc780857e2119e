-- Whether what the last line counts is within its limit, by what is gathered with it.
use Rattle.std.proofs.Common.{◌≡◌, ℕ, List, [], ◌∷◌, ◌++◌, length, map, Bool, Option, nat_le, sym, ◌∙◌, ap}
use Rattle.std.specs.List.{list_all}
use Rattle.fc_spec.specs.documents.Val.{Text}
use Rattle.fc_spec.specs.scripts.AskedScripts.{Asked, AskedLine}
use Rattle.fc_spec.specs.scripts.Script.{commit, sync, asks}
use Rattle.fc_spec.specs.scripts.ScriptFault as fault
use Rattle.fc_spec.specs.scripts.ScriptTotals.{Limits}
use Rattle.fc_spec.specs.words.Walks.{unless}
use Rattle.fc_script.specs.Gathered as definition
use Rattle.fc_script.specs.GatheredView.{gathered_view}
use Rattle.fc_script.specs.ReadView.{HasRead}
use Rattle.fc_script.specs.Sessions.{with_session}
use Rattle.fc_script.specs.ShardView.{shard_view}
use Rattle.fc_script.specs.declared.script_reader.ScriptReader.{ScriptReader}
use Rattle.fc_script.proofs.CountedLines.{sessions-search}
use Rattle.fc_script.proofs.GatheredCounts.{gathered-push, few_commits_are, few_syncs_are}
use Rattle.fc_script.proofs.ReaderAnswers.{so_far, check}

module _ (m : Limits) (r : ScriptReader) (ls : List AskedLine) (has : HasRead r (so_far m r ls)) where
  -- commits
  pub few_commits_then : (o : Option ℕ) (b : Bool) (shards : List definition.ShardSoFar) → shards ≡ definition.with_commit_of o (map shard_view r.gathered.shards.items) → list_all definition.has_few shards ≡ b
      → check (so_far m r ls) (commit o) ≡ unless b fault.too_many_commits
  few_commits_then o b shards made is = ap (λ few. unless few fault.too_many_commits) (
      sym (few_commits_are r.schema (ls ++ commit o ∷ []))
      ∙ ap (λ (g : definition.Gathered). list_all definition.has_few g.shards) (gathered-push r.schema ls (commit o) ∙ ap (λ g. definition.after g (commit o)) (sym has.gathered))
      ∙ ap (list_all definition.has_few) (sym made) ∙ is)

  -- the ends of phases
  pub few_syncs_then : (b : Bool) (g : definition.Gathered) → g ≡ definition.with_sync (gathered_view r.sessions.items r.gathered) → nat_le (length g.phases) 4096 ≡ b → check (so_far m r ls) sync ≡ unless b fault.too_many_syncs
  few_syncs_then b g made is = ap (λ few. unless few fault.too_many_syncs) (
      sym (few_syncs_are r.schema (ls ++ sync ∷ []))
      ∙ ap (λ (g : definition.Gathered). nat_le (length g.phases) 4096) (gathered-push r.schema ls sync ∙ ap (λ g. definition.after g sync) (sym has.gathered) ∙ sym made) ∙ is)

  -- sessions
  pub few_sessions_then : (session : Text) (a : Asked) (b : Bool) (ts : List Text) → ts ≡ with_session r.sessions.items session → nat_le (length ts) 16 ≡ b
      → check (so_far m r ls) (asks session a) ≡ unless b fault.too_many_sessions
  few_sessions_then session a b ts made is = ap (λ few. unless few fault.too_many_sessions) (
      ap (λ (us : List Text). nat_le (length us) 16) (sessions-search ls session a ∙ ap (λ us. with_session us session) (sym has.sessions) ∙ sym made) ∙ is)
