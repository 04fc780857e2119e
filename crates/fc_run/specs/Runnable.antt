-- What is known of a script that was read, so that its searches can be run.
use Rattle.std.specs.Prelude.{◌≡◌, ℕ, ◌<◌, ◌≤◌, List, [], ◌∷◌, length, map, false, All, AllPairs, IfOk, slice_index}
use Rattle.std.specs.Arc.{arc_value}
use Rattle.fc_spec.specs.requests.ValidRequests.{IsValidRequest}
use Rattle.fc_spec.specs.documents.Val.{same_text}
use Rattle.fc_spec.specs.scripts.WorldLimits.{IsWithinLimits}
use Rattle.fc_request.specs.RequestView.{IsRoot, request_view}
use Rattle.fc_spec.specs.words.Lists.{joined}
use Rattle.fc_script.specs.SoundScripts.{CutLists, IsSoundSearch}
use Rattle.fc_script.specs.declared.script.Phase.{Phase}
use Rattle.fc_script.specs.declared.script.Script.{Script}
use Rattle.fc_script.specs.declared.script.Search.{Search}
use Rattle.fc_store.specs.Generated.{Generated}
use Rattle.fc_run.specs.Generations.{AreCommittable}
use Rattle.fc_spec.specs.scripts.PinnedWorlds.{world_added}
use Rattle.fc_run.specs.Searches.{lists_in, shards_view}

-- its session is one of so many, and its request, where it has no fault, is valid for the schema of each generation and stands in a root as requests do
pub record IsSearchOf (gs : List Generated) (sessions : ℕ) (q : Search) : Type 0 where
  pub session : q.session < sessions
  pub request : IfOk q.request (λ r. All (λ g. IsValidRequest g.schema (request_view r)) gs)
  pub root : IfOk q.request (λ r. IsRoot r.root)

-- a phase's numbers of commits are within the batches of their shards, and its searches are sound
pub record IsRunnablePhase (s : Script) (p : Phase) : Type 0 where
  pub commits : CutLists (lists_in s.batches.items) p.commits.items
  pub searches : All (IsSoundSearch (arc_value s.schema) (length s.sessions.items)) p.searches.items

-- none of the numbers is above that of the next list at its place, and so on
abbrev pub AreRising : List ℕ → List (List ℕ) → Type 0
AreRising before [] = Unit {0}
AreRising before (commits ∷ later) = ((i : ℕ) → slice_index before i ≤ slice_index commits i) × AreRising commits later

-- the numbers of commits of phases
abbrev pub commits_in : List Phase → List (List ℕ)
commits_in phases = map (λ p. p.commits.items) phases

-- the searches of phases, one phase after another
abbrev pub searches_in : List Phase → List Search
searches_in phases = joined (map (λ p. p.searches.items) phases)

-- there is a shard, but no more than 64, and no more than 16 sessions, which differ; the batches of each can be committed, and all that they add is within the limits; the phases can be run, one after another; they have no more searches than a script may have bytes
pub record IsRunnable (s : Script) : Type 0 where
  pub some : 1 ≤ length s.batches.items
  pub few_shards : length s.batches.items ≤ 64
  pub few : length s.sessions.items ≤ 16
  pub different : AllPairs (λ a b. same_text a b ≡ false) s.sessions.items
  pub shards : AreCommittable (arc_value s.schema) (shards_view s.batches.items)
  pub within : IsWithinLimits (world_added (shards_view s.batches.items))
  pub phases : All (IsRunnablePhase s) s.phases.items
  pub rising : AreRising (map (λ shard. 0) s.batches.items) (commits_in s.phases.items)
  pub few_searches : length (searches_in s.phases.items) ≤ 67_108_864
