-- The steps that are left to a wanted bucket.
use Rattle.std.specs.Prelude.{Option, None, Some, option_map, [], ◌∷◌, ◌++◌}
use Rattle.fc_spec.specs.messages.Message.{Way}
use Rattle.fc_partial.specs.View.{key_view}
use Rattle.fc_refine.specs.AskView.{way_view}
use Rattle.fc_refine.specs.declared.ask.Want.{Want}
use Rattle.fc_told.specs.declared.steps.StepsLeft.{StepsLeft}

-- its own step, where that is left
abbrev pub own_view : Option Want → Way
own_view None = []
own_view (Some w) = record { node = w.node; key = key_view w.key } ∷ []

abbrev pub steps_view : StepsLeft → Way
steps_view s = way_view s.path.now ++ own_view (option_map (λ w. w.now) s.own)
