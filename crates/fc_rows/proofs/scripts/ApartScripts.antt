-- Scripts whose phases have a commit and a search, or one of them alone.
use Rattle.std.specs.Prelude.{◌≡◌, ℕ, List, [], ◌∷◌, true, false, None, Some, refl, codes}
use Rattle.fc_spec.specs.scripts.Script.{Line, commit, sync, asks, Script}
use Rattle.fc_spec.specs.laws.ScriptLaws.{are_apart}
use Rattle.fc_rows.proofs.scripts.Sessions.{one_shard}

abbrev script_of : List (Line ℕ) → Script ℕ
script_of lines = record { schema = one_shard; lines = lines }

pub in_one_phase : are_apart (script_of (commit None ∷ asks (codes "a") 1 ∷ [])) ≡ false
in_one_phase = refl

-- the order within the phase plays no part
pub search_first : are_apart (script_of (asks (codes "a") 1 ∷ commit (Some 0) ∷ [])) ≡ false
search_first = refl

pub sync_between : are_apart (script_of (commit None ∷ sync ∷ asks (codes "a") 1 ∷ [])) ≡ true
sync_between = refl

pub no_commit : are_apart (script_of (asks (codes "a") 1 ∷ [])) ≡ true
no_commit = refl

pub no_search : are_apart (script_of (commit None ∷ sync ∷ commit None ∷ [])) ≡ true
no_search = refl

-- the second phase has both
pub in_a_later_phase : are_apart (script_of (commit None ∷ sync ∷ asks (codes "a") 1 ∷ commit (Some 0) ∷ [])) ≡ false
in_a_later_phase = refl
