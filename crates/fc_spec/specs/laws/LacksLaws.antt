-- What lacks: it names keys of facets that are there, each shard is asked for a bucket once and tells it once, and the order of messages plays no part.
use Rattle.std.specs.Prelude.{◌≡◌, ◌≢◌, ℕ, ◌+◌, ◌<◌, ◌≤◌, List, [], ◌∷◌, ◌++◌, Bool, true, false, ◌&&◌, ◌==◌, IsTrue, Option, None, Some, is_some, count_by, AllPairs, IsPermutation}
use Rattle.std.specs.List.{AllByRecursion}
use Rattle.fc_spec.specs.requests.Request.{Terms, Kind, terms, Facet, Nodes, Request}
use Rattle.fc_spec.specs.requests.Buckets.{Key, value, is_key_of}
use Rattle.fc_spec.specs.documents.World.{World}
use Rattle.fc_spec.specs.requests.Shape.{asks_again}
use Rattle.fc_spec.specs.messages.Message.{Partials, Way, way_of, Ask, first, more}
use Rattle.fc_spec.specs.messages.MessageShape.{rows_fit, is_shaped_within}
use Rattle.fc_spec.specs.messages.Target.{facet_at, nodes_in, target_of, target_nodes}
use Rattle.fc_spec.specs.messages.Held.{Told, behind, held_in, held, or_else, told_by}
use Rattle.fc_spec.specs.messages.Lacks.{Lack, lacks, own_depth}
use Rattle.fc_spec.specs.messages.Merged.{merged}
use Rattle.fc_spec.specs.messages.Rounds.{SentMessage, told_in, next_lacks, wants_of, search_rounds}

-- there is a facet, and the key is one of its keys
abbrev pub has_key : Option (Facet × Nodes) → Key → Bool
has_key None key = false
has_key (Some f) key = is_key_of (f.0).kind key

-- each step of the way names a facet, and one of its keys, in the bucket where the steps before it lead
abbrev pub names_keys : Nodes → Way → Bool
names_keys nodes [] = true
names_keys nodes (step ∷ way) = has_key (facet_at step.node nodes) step.key && names_keys (nodes_in (facet_at step.node nodes)) way

-- the key is a value, and the facet a terms facet that asks again
abbrev pub asks_for : Kind → Nodes → Key → Bool
asks_for (terms t) inner (value v) = asks_again t inner
asks_for _ inner _ = false

abbrev pub is_asked_again : Option (Facet × Nodes) → Key → Bool
is_asked_again None key = false
is_asked_again (Some f) key = asks_for (f.0).kind f.1 key

-- a told bucket has the nodes where its way leads, and rows that fit them, with that bound on the values that a terms facet lists
pub record IsFitting (most : Terms → Option ℕ) (r : Request) (t : Told) : Type 0 where
  pub nodes : t.bucket.nodes ≡ target_nodes (target_of r.nodes t.way)
  pub rows : IsTrue (rows_fit most t.bucket.rows t.bucket.nodes)

-- a message of the shape that its ask demands tells such buckets
abbrev pub ShapedAreFitting : Type 0
ShapedAreFitting = (most : Terms → Option ℕ) (r : Request) (i : ℕ) (ask : Ask) (m : Partials) → IsTrue (is_shaped_within most r ask m) → AllByRecursion (IsFitting most r) (told_by r.nodes i ask m)

-- one of n shards is to be asked for a value of a terms facet that asks again; its way names keys of facets of the request
pub record IsThere (r : Request) (n : ℕ) (l : Lack) : Type 0 where
  pub shard : l.shard < n
  pub keys : IsTrue (names_keys r.nodes (way_of l.want))
  pub again : IsTrue (is_asked_again (facet_at l.want.node (target_nodes (target_of r.nodes l.want.path))) l.want.key)

-- so is all that lacks, where what was told fits
abbrev pub LacksAreThere : Type 0
LacksAreThere = (most : Terms → Option ℕ) (r : Request) (n : ℕ) (A : List Told) (e : ℕ) → AllByRecursion (IsFitting most r) A → AllByRecursion (IsThere r n) (lacks r n A e)

-- neither way begins with the other, so that they are two and no bucket stands under both
abbrev pub AreApart : Way → Way → Type 0
AreApart x y = (behind x y ≡ None) × (behind y x ≡ None)

-- the two are of different shards, or their ways are apart
abbrev pub StandApart : Lack → Lack → Type 0
StandApart l m = l.shard ≡ m.shard → AreApart (way_of l.want) (way_of m.want)

-- whatever was told, a shard lacks each bucket once, and none under another
abbrev pub LacksStandApart : Type 0
LacksStandApart = (r : Request) (n : ℕ) (A : List Told) (e : ℕ) → AllPairs StandApart (lacks r n A e)

-- so no two that lack are one
abbrev pub LacksDiffer : Type 0
LacksDiffer = (r : Request) (n : ℕ) (A : List Told) (e : ℕ) → AllPairs (λ l m. l ≢ m) (lacks r n A e)

-- and a shard is asked for each once
abbrev pub WantsStandApart : Type 0
WantsStandApart = (r : Request) (n : ℕ) (A : List Told) (depths e i : ℕ) → AllPairs (λ v w. AreApart (way_of v) (way_of w)) (wants_of i (next_lacks r n A depths e))

-- the same bucket is held wherever a way leads, or none
abbrev pub HoldSame : List Told → List Told → Type 0
HoldSame A B = (i : ℕ) (way : Way) → held A i way ≡ held B i way

-- what lacks, what lacks next and the merged reply are made of what is held
pub record AreMadeOfHeld (A B : List Told) : Type 0 where
  pub lacks : (r : Request) (n e : ℕ) → lacks r n A e ≡ lacks r n B e
  pub next : (r : Request) (n depths e : ℕ) → next_lacks r n A depths e ≡ next_lacks r n B depths e
  pub merged : (r : Request) (n : ℕ) → merged r n A ≡ merged r n B

abbrev pub HeldIsEnough : Type 0
HeldIsEnough = (A B : List Told) → HoldSame A B → AreMadeOfHeld A B

-- of two lists, what the first holds, and else what the second holds
abbrev pub HeldJoins : Type 0
HeldJoins = (A B : List Told) (i : ℕ) (way : Way) → held (A ++ B) i way ≡ or_else (held A i way) (held B i way)

-- the message holds a bucket of shard i where a way leads
abbrev pub holds : Nodes → ℕ → Way → SentMessage → Bool
holds nodes i way s = is_some (held (told_by nodes s.shard s.ask s.message) i way)

-- the order of messages plays no part, where no two hold one bucket of a shard
abbrev pub OrderIsFree : Type 0
OrderIsFree = (nodes : Nodes) (sent other : List SentMessage) → ((i : ℕ) (way : Way) → count_by (holds nodes i way) sent ≤ 1) → IsPermutation sent other → HoldSame (told_in nodes sent) (told_in nodes other)

-- so it is with messages of which no two are of one shard, behind whatever was told
abbrev pub RoundsOrderIsFree : Type 0
RoundsOrderIsFree = (nodes : Nodes) (A : List Told) (sent other : List SentMessage) → ((i : ℕ) → count_by (λ s. s.shard == i) sent ≤ 1) → IsPermutation sent other → HoldSame (A ++ told_in nodes sent) (A ++ told_in nodes other)

-- no bucket of one shard is told by both
abbrev pub TellApart : Told → Told → Type 0
TellApart t u = t.shard ≡ u.shard → (way : Way) → IsTrue (is_some (held_in t way)) → IsTrue (is_some (held_in u way)) → ⊥

-- no shard tells a bucket twice
abbrev pub TellOnce : List Told → Type 0
TellOnce A = AllPairs TellApart A

-- how many steps of a way lead to terms facets
abbrev pub step_depth : Option (Facet × Nodes) → ℕ
step_depth None = 0
step_depth (Some f) = own_depth (f.0).kind

abbrev pub way_depth : Nodes → Way → ℕ
way_depth nodes [] = 0
way_depth nodes (step ∷ way) = step_depth (facet_at step.node nodes) + way_depth (nodes_in (facet_at step.node nodes)) way

-- no told way has more
abbrev pub AreWithinDepth : Nodes → ℕ → List Told → Type 0
AreWithinDepth nodes e A = AllByRecursion (λ t. way_depth nodes t.way ≤ e) A

-- none of these was told by shard i
abbrev pub AreOfOthers : ℕ → List Told → Type 0
AreOfOthers i B = AllByRecursion (λ t. t.shard ≢ i) B

-- a bucket that lacks at a depth has one step more to terms facets
abbrev pub LacksAtDepth : Type 0
LacksAtDepth = (r : Request) (n : ℕ) (A : List Told) (e : ℕ) → AllByRecursion (λ l. way_depth r.nodes (way_of l.want) ≡ e + 1) (lacks r n A e)

-- where shards first tell of their roots, none tells a bucket twice
abbrev pub FirstTellOnce : Type 0
FirstTellOnce = (nodes : Nodes) (B : List Told) (i : ℕ) (m : Partials) → TellOnce B → AreOfOthers i B
    → TellOnce (B ++ told_by nodes i first m) × AreWithinDepth nodes 0 (told_by nodes i first m)

-- nor where, behind what was told no deeper than a depth and what others told in this round, one tells of what lacked there
abbrev pub RoundsTellOnce : Type 0
RoundsTellOnce = (r : Request) (n : ℕ) (A B : List Told) (e i : ℕ) (m : Partials) → TellOnce (A ++ B) → AreWithinDepth r.nodes e A → AreOfOthers i B
    → TellOnce ((A ++ B) ++ told_by r.nodes i (more (wants_of i (lacks r n A e))) m) × AreWithinDepth r.nodes (e + 1) (told_by r.nodes i (more (wants_of i (lacks r n A e))) m)

-- so no shard does in a search, in which shards answer round after round
abbrev pub SearchesTellOnce : Type 0
SearchesTellOnce = (r : Request) (W : World) → TellOnce (told_in r.nodes (search_rounds r W))
