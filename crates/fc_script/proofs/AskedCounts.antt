-- What is counted over lines does not look at what their searches ask.
use Rattle.std.proofs.Common.{◌≡◌, ℕ, List, [], ◌∷◌, map, Bool, Option, None, Some, refl, ◌∙◌, ap}
use Rattle.std.specs.Prelude.{length, nat_le, count_by}
use Rattle.std.specs.List.{filter_map, cons_option, list_all}
use Rattle.fc_spec.proofs.words.MappedLists.{count_by-map}
use Rattle.fc_spec.specs.words.Lists.{numbers_below}
use Rattle.fc_spec.specs.documents.Schema.{Schema}
use Rattle.fc_spec.specs.scripts.Script.{Line, add, delete, commit, sync, asks, is_sync, commits_shard}
use Rattle.fc_spec.specs.scripts.ScriptFault.{too_many_commits, too_many_sessions, too_many_syncs}
use Rattle.fc_spec.specs.scripts.ScriptReading.{check_last, check_documents}
use Rattle.fc_spec.specs.scripts.ScriptTotals.{Limits, added, session_in, first_ones}
use Rattle.fc_spec.specs.documents.Totals.{documents_in}
use Rattle.fc_spec.specs.scripts.AskedScripts.{line_asking}
use Rattle.fc_spec.specs.words.Walks.{unless}

module _ {A B : Type 0} (see : A → B) where
  -- what is picked from each line, where that is the same
  picked : {X : Type 0} (h : Line A → Option X) (k : Line B → Option X) → ((x : Line A) → k (line_asking see x) ≡ h x) → (ls : List (Line A)) → filter_map k (map (line_asking see) ls) ≡ filter_map h ls
  picked h k same [] = refl
  picked h k same (x ∷ xs) = ap (λ o. cons_option o (filter_map k (map (line_asking see) xs))) (same x) ∙ ap (cons_option (h x)) (picked h k same xs)

  -- how many lines pass tests that are the same
  passed : (p : Line A → Bool) (q : Line B → Bool) → ((x : Line A) → q (line_asking see x) ≡ p x) → (ls : List (Line A)) → count_by q (map (line_asking see) ls) ≡ count_by p ls
  passed p q same ls = count_by-map (line_asking see) q ls ∙ (λ i. count_by (λ x. same x i) ls)

  same_added : (x : Line A) → added (line_asking see x) ≡ added x
  same_added (add s b) = refl
  same_added (delete s id) = refl
  same_added (commit s) = refl
  same_added sync = refl
  same_added (asks session a) = refl

  same_session : (x : Line A) → session_in (line_asking see x) ≡ session_in x
  same_session (add s b) = refl
  same_session (delete s id) = refl
  same_session (commit s) = refl
  same_session sync = refl
  same_session (asks session a) = refl

  same_sync : (x : Line A) → is_sync (line_asking see x) ≡ is_sync x
  same_sync (add s b) = refl
  same_sync (delete s id) = refl
  same_sync (commit s) = refl
  same_sync sync = refl
  same_sync (asks session a) = refl

  same_commit : (shard : ℕ) (x : Line A) → commits_shard shard (line_asking see x) ≡ commits_shard shard x
  same_commit shard (add s b) = refl
  same_commit shard (delete s id) = refl
  same_commit shard (commit None) = refl
  same_commit shard (commit (Some s)) = refl
  same_commit shard sync = refl
  same_commit shard (asks session a) = refl

  -- what lines count up to is the same
  pub check_last-asked : (limits : Limits) (s : Schema) (ls : List (Line A)) (l : Line A) → check_last limits s (map (line_asking see) ls) (line_asking see l) ≡ check_last limits s ls l
  check_last-asked limits s ls (add shard b) = ap (λ blocks. check_documents limits s (documents_in blocks)) (picked added added same_added ls)
  check_last-asked limits s ls (delete shard id) = refl
  check_last-asked limits s ls (commit c) = λ i. unless (list_all (λ shard. nat_le (passed (commits_shard shard) (commits_shard shard) (same_commit shard) ls i) 4096) (numbers_below s.shards)) too_many_commits
  check_last-asked limits s ls sync = ap (λ n. unless (nat_le n 4096) too_many_syncs) (passed is_sync is_sync same_sync ls)
  check_last-asked limits s ls (asks session a) = ap (λ known. unless (nat_le (length (first_ones known)) 16) too_many_sessions) (picked session_in session_in same_session ls)
