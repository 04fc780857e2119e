-- A finding of top values under way: what its core was told are answers of the shards of a world.
use Rattle.std.specs.Prelude.{◌≡◌, List, ◌++◌, map, Option, option_map}
use Rattle.fc_spec.specs.documents.World.{World}
use Rattle.fc_spec.specs.requests.Request.{Request}
use Rattle.fc_spec.specs.messages.Lengths.{Lengths, put_all}
use Rattle.fc_spec.specs.messages.TopRounds.{ExactSent}
use Rattle.fc_spec.specs.messages.Trace.{Sent}
use Rattle.fc_spec.specs.messages.WholeTrace.{exact_entry_of}
use Rattle.fc_exact.specs.Rounds.{WasTold}
use Rattle.fc_exact.specs.State.{State}

abbrev pub IsHearing : Request → World → State → Type 0
IsHearing x W s = (sent : List ExactSent) × WasTold x W s sent

-- whose messages so far have these entries
abbrev pub HasHeard : Request → World → State → List Sent → Type 0
HasHeard x W s es = (sent : List ExactSent) × WasTold x W s sent × (map exact_entry_of sent ≡ es)

-- some entries are put into a map, and they are those of the messages that were told since
pub record HeardSince (x : Request) (W : World) (before after : State) (old new : Option Lengths) : Type 0 where
  pub entries : List Sent
  pub put : new ≡ option_map (put_all entries) old
  pub heard : (es : List Sent) → HasHeard x W before es → HasHeard x W after (es ++ entries)

-- all that was told so far is put into the map
pub record IsTraced (x : Request) (W : World) (s : State) (old new : Option Lengths) : Type 0 where
  pub entries : List Sent
  pub put : new ≡ option_map (put_all entries) old
  pub heard : HasHeard x W s entries
