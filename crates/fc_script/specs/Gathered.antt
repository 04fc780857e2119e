-- What the lines of a script add up to, one line after another.
use Rattle.std.specs.Prelude.{Bool, ℕ, zero, suc, List, [], ◌∷◌, ◌++◌, length, map, nat_le, replicate, fold, Option, None, Some}
use Rattle.fc_spec.specs.documents.Val.{Text}
use Rattle.fc_spec.specs.documents.Document.{Op, adding, deleting, Batch}
use Rattle.fc_spec.specs.documents.Schema.{Schema}
use Rattle.fc_spec.specs.scripts.AskedScripts.{Asked, AskedLine}
use Rattle.fc_spec.specs.scripts.Phases.{Phase, Search}
use Rattle.fc_spec.specs.scripts.Script.{add, delete, commit, sync, asks}
use Rattle.fc_spec.specs.scripts.ScriptParts.{Parts}

-- a batch for each commit of a shard, and the operations behind the last one
pub record ShardSoFar : Type 0 where
  pub batches : List Batch
  pub waiting : Batch

-- each shard, the phases that have ended, and the searches behind the last one
pub record Gathered : Type 0 where
  pub shards : List ShardSoFar
  pub phases : List (Phase Asked)
  pub searches : List (Search Asked)

-- before the first line
abbrev pub empty_shard : ShardSoFar
empty_shard = record { batches = []; waiting = [] }

abbrev pub nothing : Schema → Gathered
nothing s = record { shards = replicate s.shards empty_shard; phases = []; searches = [] }

-- the member of this number changed, where there is one
abbrev pub changed_at : {X : Type 0} → (X → X) → ℕ → List X → List X
changed_at f i [] = []
changed_at f zero (x ∷ xs) = f x ∷ xs
changed_at f (suc i) (x ∷ xs) = x ∷ changed_at f i xs

abbrev pub with_op : Op → ShardSoFar → ShardSoFar
with_op op x = record { batches = x.batches; waiting = x.waiting ++ op ∷ [] }

abbrev pub with_commit : ShardSoFar → ShardSoFar
with_commit x = record { batches = x.batches ++ x.waiting ∷ []; waiting = [] }

-- with a commit of one shard, or of every shard
abbrev pub with_commit_of : Option ℕ → List ShardSoFar → List ShardSoFar
with_commit_of None xs = map with_commit xs
with_commit_of (Some shard) xs = changed_at with_commit shard xs

-- it has as few commits as a script may have of each shard
abbrev pub has_few : ShardSoFar → Bool
has_few x = nat_le (length x.batches) 4096

-- the phase that is open
abbrev pub open_phase : Gathered → Phase Asked
open_phase g = record { commits = map (λ x. length x.batches) g.shards; searches = g.searches }

abbrev pub with_sync : Gathered → Gathered
with_sync g = record { shards = g.shards; phases = g.phases ++ open_phase g ∷ []; searches = [] }

abbrev pub with_search : Text → Asked → Gathered → Gathered
with_search session a g = record g { searches = g.searches ++ record { phase = length g.phases; session = session; request = a } ∷ [] }

-- behind one more line
abbrev pub after : Gathered → AskedLine → Gathered
after g (add shard b) = record g { shards = changed_at (with_op (adding b)) shard g.shards }
after g (delete shard id) = record g { shards = changed_at (with_op (deleting id)) shard g.shards }
after g (commit shard) = record g { shards = with_commit_of shard g.shards }
after g sync = with_sync g
after g (asks session a) = with_search session a g

-- behind all lines
abbrev pub gathered : Schema → List AskedLine → Gathered
gathered s lines = fold after (nothing s) lines

-- what a run takes, where the lines end here
abbrev pub gathered_parts : Schema → (sessions : List Text) → Gathered → Parts Asked
gathered_parts s sessions g = record { schema = s; sessions = sessions; batches = map (λ x. x.batches) g.shards; phases = g.phases ++ open_phase g ∷ [] }
