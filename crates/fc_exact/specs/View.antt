-- What the parts of the core stand for.
use Rattle.std.specs.Prelude.{ℕ, List, map, Bool, true, false, Option, option_map}
use Rattle.std.specs.Arc.{arc_value}
use Rattle.fc_spec.specs.messages.TopRounds as definition
use Rattle.fc_base.specs.View.{val_view}
use Rattle.fc_request.specs.RequestView.{request_view}
use Rattle.fc_request.specs.declared.request.Request.{Request}
use Rattle.fc_refine.specs.AskView.{wants_view}
use Rattle.fc_refine.specs.declared.ask.Taken.{Taken}
use Rattle.fc_refine.specs.declared.ask.Taken.TheVariants as taken
use Rattle.fc_exact.specs.State.{State}
use Rattle.fc_exact.specs.declared.ask.ExactAsk.{ExactAsk}
use Rattle.fc_exact.specs.declared.ask.ExactAsk.TheVariants.{First, Least, More}
use Rattle.fc_exact.specs.declared.told.ToldCount.{ToldCount}
use Rattle.fc_exact.specs.declared.standing.Standing.{Standing}
use Rattle.fc_exact.specs.declared.standing.Standing.TheVariants.{Ready, Spent}

abbrev pub is_ready : Standing → Bool
is_ready Ready = true
is_ready _ = false

abbrev pub is_spent : Standing → Bool
is_spent Spent = true
is_spent _ = false

abbrev pub says_ready : Taken → Bool
says_ready taken.Ready = true
says_ready taken.More = false

abbrev pub ask_view : ExactAsk → definition.ExactAsk
ask_view First = definition.exact_first
ask_view (Least ns) = definition.exact_least ns.items
ask_view (More ws) = definition.exact_more (wants_view (arc_value ws).items)

abbrev pub asks_view : List (Option ExactAsk) → List (Option definition.ExactAsk)
asks_view asks = map (option_map ask_view) asks

abbrev pub told_view : ToldCount → definition.ToldCount
told_view a = record { node = a.node; shard = a.shard; val = val_view a.val; count = a.count }

abbrev pub state_of : Request → List ToldCount → List (Option ExactAsk) → ℕ → Standing → State
state_of request told asks round standing = record {
  request = request_view request;
  told = map told_view told;
  asks = asks_view asks;
  round = round;
  ready = is_ready standing;
  spent = is_spent standing;
}
