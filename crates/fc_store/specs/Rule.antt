-- The rule of a store, over what is published and what each end knows: the published number, the length of the charter and the readers' numbers are the core of a phase for one shard, publishing and pinning its events.
use Rattle.std.specs.Prelude.{◌≡◌, ℕ, ◌+◌, ◌≤◌, true, false, List, [], ◌∷◌, All}
use Rattle.std.specs.Arc.{arc_value}
use mathlib.Core.Option.{some}
use lib.ListN.{get_elem?}
use Rattle.fc_spec.specs.documents.Schema.{Schema}
use Rattle.fc_store.specs.Generated.{Generated}
use Rattle.fc_store.specs.Charters.{Chartered, IsBatchOf, IsChartered, KeepsLimits}
use Rattle.fc_store.specs.Ends.{Writing, Pinning}
use Rattle.fc_store.specs.declared.rule.Shown.{Shown}
use Rattle.fc_store.specs.declared.rule.Known.{Known}

-- ---- what is published, and what is known of it

-- a charter, and the generation that is published
abbrev pub Content : Type 0
Content = Chartered × Generated

abbrev pub content : Shown → Content
content s = (s.charter, arc_value s.generation)

-- what an end knows is of the same charter, and no number that it knows is higher
abbrev pub IsTrueOf : Content → Known → Type 0
IsTrueOf x v = v.bound ≡ true → (v.schema ≡ x.1.schema) × (v.charter ≡ x.0) × (v.at ≤ x.1.number)

abbrev pub AllTrueOf : Content → List Known → Type 0
AllTrueOf x views = (seat : ℕ) (v : Known) → get_elem? views seat ≡ some v → IsTrueOf x v

-- the rule: the published generation is the charter's of its number, and what each end knows is true of it
abbrev pub KeepsAt : Content → List Known → Type 0
KeepsAt x views = IsChartered x.0 x.1 × AllTrueOf x views

abbrev pub Keeps : Shown → List Known → Type 0
Keeps s views = KeepsAt (content s) views

-- ---- steps

-- an end that knows nothing yet
abbrev pub nothing : Known
nothing =
    let none : Schema = record { shards = 0; fields = [] } in
    let start : Generated = record { schema = none; number = 0; blocks = [] } in
    record { bound = false; schema = none; charter = record { start = start; later = [] }; at = 0 }

-- all that there is to know
abbrev pub known : Content → Known
known x = record { bound = true; schema = x.1.schema; charter = x.0; at = x.1.number }

-- the writer is made
abbrev pub binds : Known → Shown → Shown → Known → Type 0
binds v x y w = w ≡ known (content x)

-- a generation is published: the writer knows its number
abbrev pub publishes : Known → Shown → Shown → Known → Type 0
publishes v x y w = w ≡ record v { at = (content y).1.number }

-- a reader takes what is published, which is no less than what it knew
abbrev pub pins : Known → Shown → Shown → Known → Type 0
pins v x y w = IsTrueOf (content x) v × IsChartered (content x).0 (content x).1 × (w ≡ record v { at = (content x).1.number })

-- a new reader, or a note, takes over what the writer knows
abbrev pub takes_over : Known → Known → Known
takes_over v w = w

-- ---- what the ends show

abbrev pub pinning : Known → Pinning
pinning v = record { schema = v.schema; charter = v.charter; least = v.at }

abbrev pub noting : Known → Writing
noting v = record { schema = v.schema; charter = v.charter; number = v.at }

abbrev pub writing : Content → Writing
writing x = record { schema = x.1.schema; charter = x.0; number = x.1.number }

-- ---- the writer

-- a generation follows what is published
pub record Follows (x : Content) (g : Generated) : Type 0 where
  pub schema : g.schema ≡ x.1.schema
  pub charted : IsChartered x.0 g
  pub next : g.number ≡ x.1.number + 1

-- nothing waits to be published, or the next generation does
abbrev pub IsNext : Content → List Generated → Type 0
IsNext x [] = Unit {0}
IsNext x (g ∷ []) = Follows x g
IsNext x (g ∷ h ∷ more) = ⊥

-- what a writer knows of what it has published, and of what waits
pub record IsLed (x : Content) (v : Known) (waiting : List Generated) : Type 0 where
  pub knows : v ≡ known x
  pub charted : IsChartered x.0 x.1
  pub next : IsNext x waiting

-- segments can be built of the charter's batches, and merged
abbrev pub CanBuild : Content → Type 0
CanBuild x = All (IsBatchOf x.1.schema) x.0.later × KeepsLimits x.0
