-- What the lines of a script that were gathered stand for, and what is known of them.
use Rattle.std.specs.Prelude.{ℕ, List, length, map, All}
use Rattle.fc_spec.specs.documents.Schema.{Schema}
use Rattle.fc_spec.specs.documents.Val.{Text}
use Rattle.fc_script.specs.Gathered as gathered
use Rattle.fc_script.specs.PartsView.{phases_view, search_view}
use Rattle.fc_script.specs.ShardView.{shard_view}
use Rattle.fc_script.specs.SoundScripts.{IsSoundSearch}
use Rattle.fc_script.specs.declared.gather.gathered.Gathered.{Gathered}
use Rattle.fc_script.specs.declared.script.Phase.{Phase}
use Rattle.fc_script.specs.declared.script.Script.{Script}

abbrev pub gathered_view : (sessions : List Text) → Gathered → gathered.Gathered
gathered_view sessions g = record {
  shards = map shard_view g.shards.items;
  phases = phases_view sessions g.phases.items;
  searches = map (search_view sessions (length g.phases.items)) g.searches.items;
}

-- the searches of a phase are sound
abbrev pub HasSoundSearches : Schema → (sessions : ℕ) → Phase → Type 0
HasSoundSearches s n p = All (IsSoundSearch s n) p.searches.items

abbrev pub AreSoundPhases : Schema → (sessions : ℕ) → Script → Type 0
AreSoundPhases s n script = All (HasSoundSearches s n) script.phases.items

-- so are those of each phase that has ended, and those behind
pub record IsSoundSoFar (s : Schema) (sessions : ℕ) (g : Gathered) : Type 0 where
  pub phases : All (HasSoundSearches s sessions) g.phases.items
  pub searches : All (IsSoundSearch s sessions) g.searches.items
