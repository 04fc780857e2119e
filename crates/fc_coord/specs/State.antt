-- What a coordinator stands for, and what a message changes.
use Rattle.std.specs.Prelude.{ℕ, suc, List, [], ◌∷◌, ◌++◌, map, length, Bool, true, false, ◌&&◌, IsTrue, is_some, Option, None, Some, option_and_then, slice_get, slice_set, if◌then◌else◌}
use Rattle.std.specs.List.{list_any}
use Rattle.fc_spec.specs.words.Lists.{numbers_below}
use Rattle.fc_spec.specs.requests.Request.{Nodes, Request}
use Rattle.fc_spec.specs.messages.Message.{Partials, Want, Ask, first, more}
use Rattle.fc_spec.specs.messages.MessageShape.{is_shaped}
use Rattle.fc_spec.specs.messages.Held.{Told, told_by}
use Rattle.fc_spec.specs.messages.Lacks.{Lack, terms_depth}
use Rattle.fc_spec.specs.messages.Rounds.{next_lacks, wants_of}
use Rattle.fc_spec.specs.laws.SumsLaw.{SumsFit}
use Rattle.fc_told.specs.Trees.{Tree, nothing}
use Rattle.fc_told.specs.Adding.{all_added}
use Rattle.fc_told.specs.Fitting.{all_fit}

-- the request, the tree of what was told, for each shard what it is asked while its message is awaited, the round, whether the reply can be made, and whether memory ran out
pub record State : Type 0 where
  pub request : Request
  pub tree : Tree
  pub asks : List (Option Ask)
  pub round : ℕ
  pub ready : Bool
  pub spent : Bool

-- what an awaited shard is asked
abbrev pub ask_at : List (Option Ask) → ℕ → Option Ask
ask_at asks i = option_and_then (λ ask. ask) (slice_get asks i)

abbrev pub is_awaited : State → ℕ → Bool
is_awaited s i = is_some (ask_at s.asks i)

-- at the start nothing was told, and every shard is asked first
abbrev pub at_start : Request → ℕ → State
at_start r n = record { request = r; tree = nothing; asks = map (λ _. Some first) (numbers_below n); round = 1; ready = false; spent = false }

-- what a message tells, of a shard that is asked something
abbrev pub told_for : Nodes → ℕ → Option Ask → Partials → List Told
told_for nodes i None m = []
told_for nodes i (Some ask) m = told_by nodes i ask m

abbrev pub told_of : State → ℕ → Partials → List Told
told_of s i m = told_for s.request.nodes i (ask_at s.asks i) m

-- it has the shape that the ask demands, and the sums in the tree have room for it
abbrev pub is_shaped_for : Request → Option Ask → Partials → Bool
is_shaped_for r None m = false
is_shaped_for r (Some ask) m = is_shaped r ask m

abbrev pub is_fitting : State → ℕ → Partials → Bool
is_fitting s i m = is_shaped_for s.request (ask_at s.asks i) m && all_fit s.tree (told_of s i m)

-- behind all that was told before it: it has the shape that the ask demands, and with it all sums fit
abbrev pub Fits : State → List Told → ℕ → Partials → Type 0
Fits s A i m = IsTrue (is_shaped_for s.request (ask_at s.asks i) m) × SumsFit (A ++ told_of s i m)

-- its buckets are told, and the shard is awaited no longer
abbrev pub heard : State → ℕ → Partials → State
heard s i m = record s { tree = all_added (told_of s i m) s.tree; asks = slice_set s.asks i None }

-- an ask for wants, where there are any
abbrev pub ask_for : List Want → Option Ask
ask_for [] = None
ask_for (w ∷ ws) = Some (more (w ∷ ws))

-- each of n shards is asked for all that it lacks; one that lacks nothing is not awaited
abbrev pub asks_for : ℕ → List Lack → List (Option Ask)
asks_for n all = map (λ i. ask_for (wants_of i all)) (numbers_below n)

-- the next round, where something lacks; else the reply can be made
abbrev pub begun : State → List Lack → State
begun s [] = record s { ready = true }
begun s (l ∷ all) = record s { asks = asks_for (length s.asks) (l ∷ all); round = suc s.round }

-- what lacks next, where all this was told
abbrev pub lacks_next : State → List Told → List Lack
lacks_next s A = next_lacks s.request (length s.asks) A (terms_depth s.request.nodes) 0

-- nothing more while a shard is awaited; then the next round begins, or the reply can be made
abbrev pub goes_on : State → List Told → State
goes_on s A = if list_any is_some s.asks then s else begun s (lacks_next s A)

-- the state after a message was taken behind all that was told before it
abbrev pub taken : State → List Told → ℕ → Partials → State
taken s A i m = goes_on (heard s i m) (A ++ told_of s i m)
