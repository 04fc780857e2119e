-- The limits on commits, syncs and sessions, at their value and one past it.
use Rattle.std.specs.Prelude.{◌≡◌, refl, ℕ, List, [], ◌∷◌, ◌++◌, replicate, None, Some, Ok, Err, Result, map}
use Rattle.serde_json.specs.Data.{Data, null}
use Rattle.fc_spec.specs.documents.Schema.{Schema}
use Rattle.fc_spec.specs.scripts.Script.{Line, commit, sync, asks}
use Rattle.fc_spec.specs.scripts.ScriptFault.{LineFault, too_many_sessions, too_many_commits, too_many_syncs}
use Rattle.fc_spec.specs.scripts.ScriptTotals.{script_limits}
use Rattle.fc_spec.specs.scripts.ScriptReading.{check_last}

abbrev two : Schema
two = record { shards = 2; fields = [] }

abbrev last : List (Line Data) → Line Data → Result (Unit {0}) LineFault
last lines l = check_last script_limits two lines l

pub last_commit : last (replicate 4096 (commit None)) (commit None) ≡ Ok tt
last_commit = refl

pub one_commit_too_many : last (replicate 4097 (commit None)) (commit None) ≡ Err too_many_commits
one_commit_too_many = refl

pub another_shard_has_room : last (replicate 4096 (commit (Some 0)) ++ commit (Some 1) ∷ []) (commit (Some 1)) ≡ Ok tt
another_shard_has_room = refl

pub one_shard_is_full : last (replicate 4096 (commit (Some 1)) ++ commit None ∷ []) (commit None) ≡ Err too_many_commits
one_shard_is_full = refl

pub every_shard_has_room : last (replicate 4095 (commit (Some 1)) ++ commit None ∷ []) (commit None) ≡ Ok tt
every_shard_has_room = refl

pub two_full_shards : last (replicate 4096 (commit (Some 1)) ++ replicate 4096 (commit (Some 0))) (commit (Some 0)) ≡ Ok tt
two_full_shards = refl

pub last_sync : last (replicate 4096 sync) sync ≡ Ok tt
last_sync = refl

pub one_sync_too_many : last (replicate 4097 sync) sync ≡ Err too_many_syncs
one_sync_too_many = refl

pub commits_are_no_syncs : last (replicate 4096 (commit None) ++ replicate 4096 sync) sync ≡ Ok tt
commits_are_no_syncs = refl

-- sessions of 1, 2, .. 16 bytes
abbrev asking : ℕ → Line Data
asking n = asks (replicate n 97) null

pub sixteen_sessions : last (map asking (1 ∷ 2 ∷ 3 ∷ 4 ∷ 5 ∷ 6 ∷ 7 ∷ 8 ∷ 9 ∷ 10 ∷ 11 ∷ 12 ∷ 13 ∷ 14 ∷ 15 ∷ 16 ∷ 1 ∷ [])) (asking 1) ≡ Ok tt
sixteen_sessions = refl

pub a_seventeenth_session : last (map asking (1 ∷ 2 ∷ 3 ∷ 4 ∷ 5 ∷ 6 ∷ 7 ∷ 8 ∷ 9 ∷ 10 ∷ 11 ∷ 12 ∷ 13 ∷ 14 ∷ 15 ∷ 16 ∷ 17 ∷ [])) (asking 17) ≡ Err too_many_sessions
a_seventeenth_session = refl
