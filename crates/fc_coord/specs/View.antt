-- What the parts of a coordinator stand for.
use Rattle.std.specs.Prelude.{◌≡◌, ℕ, List, map, Bool, true, false, Option, option_map, Vec}
use Rattle.std.specs.declared.alloc.Global.{Global}
use Rattle.fc_spec.specs.messages.Message as message
use Rattle.fc_spec.specs.messages.Held.{Told}
use Rattle.fc_request.specs.RequestView.{request_view}
use Rattle.fc_request.specs.declared.request.Request.{Request}
use Rattle.fc_refine.specs.AskView.{ask_view, wants_view}
use Rattle.fc_refine.specs.declared.ask.Ask.{Ask}
use Rattle.fc_refine.specs.declared.ask.Want.{Want}
use Rattle.fc_refine.specs.declared.ask.Taken.{Taken}
use Rattle.fc_refine.specs.declared.ask.Taken.TheVariants as answer
use Rattle.fc_told.specs.TreeView.{tree_view}
use Rattle.fc_told.specs.declared.tree.ToldBucket.{ToldBucket}
use Rattle.fc_coord.specs.State.{State}
use Rattle.fc_coord.specs.Keeps.{depth_of, Keeps}
use Rattle.fc_coord.specs.declared.standing.Standing.{Standing}
use Rattle.fc_coord.specs.declared.standing.Standing.TheVariants.{Ready, Spent}

abbrev pub is_ready : Standing → Bool
is_ready Ready = true
is_ready _ = false

abbrev pub is_spent : Standing → Bool
is_spent Spent = true
is_spent _ = false

abbrev pub asks_view : List (Option Ask) → List (Option message.Ask)
asks_view asks = map (option_map ask_view) asks

-- the wants of each shard
abbrev pub all_wants_view : List (Vec Want Global) → List (List message.Want)
all_wants_view wants = map (λ list. wants_view list.items) wants

abbrev pub state_of : Request → ToldBucket → List (Option Ask) → ℕ → Standing → State
state_of request told asks round standing = record {
  request = request_view request;
  tree = tree_view told;
  asks = asks_view asks;
  round = round;
  ready = is_ready standing;
  spent = is_spent standing;
}

-- it is kept, in a round that asks for buckets with so many terms facets around
abbrev pub KeepsAt : State → List Told → ℕ → Type 0
KeepsAt s A depth = (k : Keeps s A) × (depth_of k.asking ≡ depth)

-- some list of what was told is kept
abbrev pub IsKept : State → Type 0
IsKept s = (A : List Told) × Keeps s A

abbrev pub IsKeptAt : State → ℕ → Type 0
IsKeptAt s depth = (A : List Told) × KeepsAt s A depth

-- the answer that the reply can be made
abbrev pub says_ready : Taken → Bool
says_ready answer.More = false
says_ready answer.Ready = true
