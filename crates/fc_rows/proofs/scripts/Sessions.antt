-- Two sessions that search while a commit may be under way: which generations they may see.
use Rattle.std.specs.Prelude.{◌≡◌, ℕ, [], ◌∷◌, true, false, None, refl, codes}
use Rattle.fc_spec.specs.documents.Document.{adding}
use Rattle.fc_spec.specs.documents.Schema.{string, Schema}
use Rattle.fc_spec.specs.scripts.Script.{add, commit, sync, asks, Script, commits_up_to, commits_before, world}
use Rattle.fc_spec.specs.scripts.Phases.{searches, phases}
use Rattle.fc_spec.specs.scripts.Outputs.{shown_to, legal}
use Rattle.fc_spec.specs.scripts.ScriptTotals.{sessions}
use Rattle.fc_spec.specs.scripts.ScriptParts.{parts_of}
use Rattle.fc_rows.proofs.Words.{labelled}

abbrev pub one_shard : Schema
one_shard = record { shards = 1; fields = record { name = codes "id"; kind = string } ∷ record { name = codes "cat"; kind = string } ∷ [] }

-- the searches are told apart by a number
abbrev pub script : Script ℕ
script = record {
  schema = one_shard;
  lines = add 0 (labelled "1" "a") ∷ commit None ∷ asks (codes "a") 1 ∷ asks (codes "a") 2 ∷ asks (codes "b") 3 ∷ sync ∷ asks (codes "a") 4 ∷ [];
}

pub all_searches : searches script.lines
    ≡ record { phase = 0; session = codes "a"; request = 1 }
    ∷ record { phase = 0; session = codes "a"; request = 2 }
    ∷ record { phase = 0; session = codes "b"; request = 3 }
    ∷ record { phase = 1; session = codes "a"; request = 4 }
    ∷ []
all_searches = refl

-- two phases, each with the commits up to its end
pub two_phases : phases script
    ≡ record {
      commits = 1 ∷ [];
      searches =
          record { phase = 0; session = codes "a"; request = 1 } ∷ record { phase = 0; session = codes "a"; request = 2 } ∷ record { phase = 0; session = codes "b"; request = 3 } ∷ [];
    }
    ∷ record { commits = 1 ∷ []; searches = record { phase = 1; session = codes "a"; request = 4 } ∷ [] }
    ∷ []
two_phases = refl

-- no phase is before the first
pub none_before : commits_before script.lines 0 0 ≡ 0
none_before = refl

pub one_in_first : commits_up_to script.lines 0 0 ≡ 1
one_in_first = refl

pub one_before_second : commits_before script.lines 0 1 ≡ 1
one_before_second = refl

pub one_up_to_second : commits_up_to script.lines 0 1 ≡ 1
one_up_to_second = refl

-- the first search of session a: before the commit or after it, and no further
pub first_early : legal script [] 0 (0 ∷ []) ≡ true
first_early = refl

pub first_late : legal script [] 0 (1 ∷ []) ≡ true
first_late = refl

pub first_too_late : legal script [] 0 (2 ∷ []) ≡ false
first_too_late = refl

-- its second search: not before what the first has shown
pub second_early : legal script ((0 ∷ []) ∷ []) 0 (0 ∷ []) ≡ true
second_early = refl

pub second_moves_on : legal script ((0 ∷ []) ∷ []) 0 (1 ∷ []) ≡ true
second_moves_on = refl

pub second_stays : legal script ((1 ∷ []) ∷ []) 0 (1 ∷ []) ≡ true
second_stays = refl

pub second_goes_back : legal script ((1 ∷ []) ∷ []) 0 (0 ∷ []) ≡ false
second_goes_back = refl

-- session b is not bound by what session a has seen
pub other_session : legal script (shown_to (codes "b") ((codes "a", 1 ∷ []) ∷ (codes "a", 1 ∷ []) ∷ [])) 0 (0 ∷ []) ≡ true
other_session = refl

-- behind the sync the commit is there
pub last_sees : legal script (shown_to (codes "a") ((codes "a", 0 ∷ []) ∷ (codes "a", 1 ∷ []) ∷ (codes "b", 0 ∷ []) ∷ [])) 1 (1 ∷ []) ≡ true
last_sees = refl

pub last_misses : legal script [] 1 (0 ∷ []) ≡ false
last_misses = refl

-- one number for each shard
pub too_few : legal script [] 0 [] ≡ false
too_few = refl

pub too_many : legal script [] 0 (1 ∷ 1 ∷ []) ≡ false
too_many = refl

pub world_before : world script (0 ∷ []) ≡ [] ∷ []
world_before = refl

pub world_after : world script (1 ∷ []) ≡ (labelled "1" "a" ∷ []) ∷ []
world_after = refl

-- each session once, in the order of their first searches
pub sessions_in_order : sessions {A = ℕ} (asks (codes "b") 1 ∷ asks (codes "a") 2 ∷ asks (codes "b") 3 ∷ asks (codes "c") 4 ∷ asks (codes "a") 5 ∷ []) ≡ codes "b" ∷ codes "a" ∷ codes "c" ∷ []
sessions_in_order = refl

-- what a run takes
pub parts : parts_of script ≡ record { schema = one_shard; sessions = codes "a" ∷ codes "b" ∷ []; batches = ((adding (labelled "1" "a") ∷ []) ∷ []) ∷ []; phases = phases script }
parts = refl
